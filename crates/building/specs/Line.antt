-- A line of either kind, by one definition: its parts, and what building it comes to. Assumes nothing.
use Rattle.std.specs.Prelude.{ℕ, Bool, true, false, List, [], ◌∷◌, ◌++◌, map, length}
use Rattle.rules.specs.declared.Arg.{Arg}
use Rattle.rules.specs.Choice.{both, any}
use Rattle.rules.specs.Unit.{is_nul, quote}
use Rattle.rules.specs.Outcome.{Outcome, refuse, Finding, wrong_if, Fault, fault_from, first_fault, unless, limited}
use Rattle.rules.specs.Record.{Argument, argument_of}
use Rattle.rules.specs.Building.{tail, nul_finding, is_no_script}
use Rattle.names.specs.Name.{name_of, head_of}
use Rattle.adding.specs.declared.styles.Style.{Style}
use Rattle.adding.specs.Limits.{limit_of, counted}
use Rattle.adding.specs.Judged.{breaks_line}
use Rattle.adding.specs.Added.{rule_of}

-- ---- its parts

-- what stands behind them: the last quote of a batch line, or nothing
abbrev pub end_of : Bool → List ℕ
end_of true = quote ∷ []
end_of false = []

-- how many units stand round them
unfoldable pub frame_units : Bool → List ℕ → ℕ
unfolding head_of counted
frame_units batch name = counted (length (head_of batch name)) (length (end_of batch))

-- for each argument one space and its form
abbrev pub row_of : Style → List Argument → List ℕ
row_of s args = tail (rule_of s.batch) s.force args

-- the whole line
unfoldable pub whole_line : Style → List ℕ → List Argument → List ℕ
unfolding head_of rule_of
whole_line s name args = head_of s.batch name ++ row_of s args ++ end_of s.batch

-- ---- what building it comes to

-- 6 and 5 of an argument
abbrev pub units_finding : Bool → Argument → Finding
units_finding batch a = wrong_if 6 (breaks_line batch a) (nul_finding a)

-- 2, then 4, on the whole line
unfoldable pub line_limited : Style → List ℕ → List Argument → ℕ → Outcome (List ℕ)
unfolding name_of whole_line limit_of
line_limited s lent args room = limited (limit_of s.batch) room (whole_line s (name_of s.batch lent) args)

-- 7; 5 for program or script; then argument by argument, 6 before 5; then 2; then 4
unfoldable pub line_named : Style → List ℕ → List Argument → ℕ → Outcome (List ℕ)
unfolding name_of fault_from line_limited
line_named s lent args room =
    refuse 7 (both s.batch (is_no_script lent))
    (refuse 5 (any is_nul (name_of s.batch lent)) (unless (first_fault (units_finding s.batch) args) (line_limited s lent args room)))

-- the fault of the records, before all that
unfoldable pub line_outcome : Style → List ℕ → List ℕ → Fault → List Arg → ℕ → Outcome (List ℕ)
unfolding line_named
line_outcome s lent text faults records room = unless faults (line_named s lent (map (argument_of text) records) room)
