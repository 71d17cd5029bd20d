-- Ordinary lines and batch lines from a list of argument records. Assumes nothing.
use Rattle.std.specs.Prelude.{ℕ, Bool, true, false, List, [], ◌∷◌, ◌++◌}
use Rattle.rules.specs.Choice.{pick, either, both, any}
use Rattle.rules.specs.Unit.{units, is_nul, is_line_break, is_quote, quote, space}
use Rattle.rules.specs.Outcome.{Outcome, refuse, Finding, sound, wrong_if, fault_from, first_fault, unless, limited}
use Rattle.rules.specs.Record.{Argument, is_regular, argument_fault, arguments_of}
use Rattle.rules.specs.Quoting.{form, enclosed}
use Rattle.rules.specs.Batch.{batch_form, ends_in_backslash}

-- the most units of a line that is built: "Built lines, ordinary and batch, now stop at 32,766; 32,767 is refusal 2." (02, E2)
-- "The public text of CreateProcessW counts the terminating NUL in its 32,767, and our lines carry none."
unfoldable pub line_limit : ℕ
line_limit = 32766

-- an argument as it is written: "Raw: the units unchanged", a regular one by its rule, which is told whether quotes are forced
abbrev pub written : (Bool → List ℕ → List ℕ) → Bool → Argument → List ℕ
written rule force a = pick (is_regular a.kind) (rule force a.content) a.content

-- "for each argument one space and its form"
abbrev pub tail : (Bool → List ℕ → List ℕ) → Bool → List Argument → List ℕ
tail rule force [] = []
tail rule force (a ∷ more) = space ∷ written rule force a ++ tail rule force more

-- ---- an ordinary line

-- "The line is quote, program, quote, then for each argument one space and its form. A quote in the program is written as it is."
unfoldable pub line : Bool → List ℕ → List Argument → List ℕ
unfolding form
line force program args = enclosed program ++ tail form force args

-- 5: NUL in an argument
abbrev pub nul_finding : Argument → Finding
nul_finding a = wrong_if 5 (any is_nul a.content) sound

-- "Building: 1 over all records, lowest index first; .. 5 for program ..; then argument by argument, .. 5; then 2; then 4."
unfoldable pub command_line : Bool → List ℕ → List ℕ → List ℕ → ℕ → Outcome (List ℕ)
unfolding argument_fault arguments_of fault_from line line_limit
command_line force program records text room =
    let args = arguments_of text records in
    unless (argument_fault text records)
    (refuse 5 (any is_nul program)
    (unless (first_fault nul_finding args)
    (limited line_limit room (line force program args))))

-- ---- a batch line

-- "the script without one final NUL"
unfoldable pub script_of : List ℕ → List ℕ
script_of [] = []
script_of (x ∷ []) = pick (is_nul x) [] (x ∷ [])
script_of (x ∷ y ∷ ys) = x ∷ script_of (y ∷ ys)

-- the most units of a batch line that is built: the limit of every line
unfoldable pub batch_limit : ℕ
unfolding line_limit
batch_limit = line_limit

-- "The line starts with the 28 units"
unfoldable pub batch_front : List ℕ
unfolding units
batch_front = units "cmd.exe /e:ON /v:OFF /d /c \""

-- the front, "then quote, the script without one final NUL, quote, then a space and form for each argument, then a quote"
unfoldable pub batch_line : Bool → List ℕ → List Argument → List ℕ
unfolding batch_form batch_front
batch_line force script args = batch_front ++ enclosed script ++ tail batch_form force args ++ quote ∷ []

-- 7: "a script contains a quote, or its last unit as lent is a backslash"
abbrev pub is_no_script : List ℕ → Bool
is_no_script script = either (any is_quote script) (ends_in_backslash script)

-- 6: "CR (13) or LF (10) in a regular argument of a batch line"; "6 before 5"
abbrev pub batch_finding : Argument → Finding
batch_finding a = wrong_if 6 (both (is_regular a.kind) (any is_line_break a.content)) (nul_finding a)

-- "Building: 1 over all records, lowest index first; 7; 5 for .. script; then argument by argument, 6 before 5; then 2; then 4."
unfoldable pub batch_command_line : Bool → List ℕ → List ℕ → List ℕ → ℕ → Outcome (List ℕ)
unfolding argument_fault arguments_of fault_from batch_line script_of batch_limit ends_in_backslash
batch_command_line force script records text room =
    let args = arguments_of text records in
    unless (argument_fault text records)
    (refuse 7 (is_no_script script)
    (refuse 5 (any is_nul (script_of script))
    (unless (first_fault batch_finding args)
    (limited batch_limit room (batch_line force (script_of script) args)))))

-- ---- a line of either kind

-- a batch line where the first says so, else an ordinary one
abbrev pub either_line : Bool → Bool → List ℕ → List ℕ → List ℕ → ℕ → Outcome (List ℕ)
either_line true force script records text room = batch_command_line force script records text room
either_line false force program records text room = command_line force program records text room
