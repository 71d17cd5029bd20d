-- The document's marked examples, in one list and one statement. Assumes nothing.
use Rattle.std.specs.Prelude.{ℕ, ◌≡◌, refl, Bool, true, false, List, [], ◌∷◌, ◌++◌, map, ℤ, pos, neg_ℤ}
use Prim.Native.String.{String}
use Rattle.rules.specs.Unit.{units, nul}
use Rattle.rules.specs.Record.{Argument, Entry, regular}
use Rattle.rules.specs.Reading.{arguments}
use Rattle.rules.specs.Building.{line, batch_line}
use Rattle.rules.specs.Quoting.{form}
use Rattle.rules.specs.Batch.{batch_form}
use Rattle.rules.specs.Block.{block}
use Rattle.rules.specs.Status.{status_text, signed_code}
use Rattle.rules.specs.Example.{Example, sequence, sequences, numbers, ◌gives◌, computed, stated}

-- a regular argument of the quoted text
abbrev regular_of : String → Argument
regular_of s = record { kind = regular; content = units s }

-- an entry of a quoted key and value
abbrev entry : String → String → Entry
entry key value = record { key = units key; value = units value }

-- a line is read as these arguments
abbrev reads : String → List String → Example
reads line args = sequences (arguments (units line)) gives sequences (map units args)

-- a program and regular arguments are written as this line
abbrev writes : String → List String → String → Example
writes program args whole = sequence (line false (units program) (map regular_of args)) gives sequence (units whole)

-- a regular argument has this form, with quotes forced or not
abbrev forms : Bool → String → String → Example
forms force arg whole = sequence (form force (units arg)) gives sequence (units whole)

-- a script and regular arguments are written as this batch line
abbrev batches : String → List String → String → Example
batches script args whole = sequence (batch_line false (units script) (map regular_of args)) gives sequence (units whole)

-- a regular argument of a batch line has this form
abbrev batch_forms : String → String → Example
batch_forms arg whole = sequence (batch_form false (units arg)) gives sequence (units whole)

-- entries are written as this block
abbrev blocks : List Entry → List ℕ → Example
blocks entries whole = sequence (block entries) gives sequence whole

-- a child status has this text
abbrev status_reads : ℕ → String → Example
status_reads status text = sequence (status_text status) gives sequence (units text)

-- a child status has this signed code
abbrev status_signed : ℕ → ℤ → Example
status_signed status code = numbers (signed_code status ∷ []) gives numbers (code ∷ [])

-- the examples that the document marks, in its order
unfoldable pub marked : List Example
unfolding units
marked =
    reads "exe \"" ("exe" ∷ "" ∷ [])
    ∷ reads "exe \"\"" ("exe" ∷ "" ∷ [])
    ∷ reads "exe \"\"\"\"" ("exe" ∷ "\"" ∷ [])
    ∷ reads "exe \"\"\"" ("exe" ∷ "\"" ∷ [])
    ∷ reads "exe a " ("exe" ∷ "a" ∷ [])
    ∷ reads " exe" ("" ∷ "exe" ∷ [])
    ∷ reads "exe \\\\\\\"" ("exe" ∷ "\\\"" ∷ [])
    ∷ reads "exe \\\\\"" ("exe" ∷ "\\" ∷ [])
    ∷ reads "exe a\"b\"\" c d" ("exe" ∷ "ab\" c d" ∷ [])
    ∷ writes "exe" ("a b" ∷ "" ∷ []) "\"exe\" \"a b\" \"\""
    ∷ forms false "\\\"" "\\\\\\\""
    ∷ forms false "a\\" "a\\"
    ∷ forms true "a\\" "\"a\\\\\""
    ∷ batches "a.bat" ("x y" ∷ []) "cmd.exe /e:ON /v:OFF /d /c \"\"a.bat\" \"x y\"\""
    ∷ batch_forms "50%" "\"50%%cd:~,%\""
    ∷ batch_forms "a\"b" "\"a\"\"b\""
    ∷ batch_forms "c:\\d\\" "\"c:\\d\\\\\""
    ∷ blocks (entry "A" "1" ∷ entry "B" "" ∷ []) (units "A=1" ++ nul ∷ units "B=" ++ nul ∷ nul ∷ [])
    ∷ status_reads 3221225477 "exit code: 0xc0000005"
    ∷ status_signed 3221225477 (neg_ℤ (pos 1073741819))
    ∷ []

-- each computes to what the document says
pub marked_hold : map computed marked ≡ map stated marked
unfolding marked arguments line batch_line form batch_form block status_text signed_code
marked_hold = refl
