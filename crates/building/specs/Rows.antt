-- The parts of a line put together, and the most that its arguments can take. Assumes nothing.
use Rattle.std.specs.Prelude.{ℕ, ◌+◌, ◌≤◌, ◌≡◌, Bool, List, [], ◌∷◌, length}
use Rattle.std.proofs.Common.{arith, length-append}
use Rattle.rules.specs.Record.{Argument}
use Rattle.names.specs.Name.{head_of}
use Rattle.adding.specs.declared.styles.Style.{Style}
use Rattle.adding.specs.Judged.{most_units}
use Rattle.adding.specs.Added.{piece}
use Rattle.adding.specs.Most.{piece_most}
use Rattle.building.specs.Line.{end_of, row_of, whole_line}

-- the most units that arguments can take, with the space before each
abbrev pub most_of : Bool → List Argument → ℕ
most_of batch [] = 0
most_of batch (a ∷ args) = most_units batch (length a.content) + most_of batch args

-- arguments take no more than that
pub row_most : (s : Style) (args : List Argument) → length (row_of s args) ≤ most_of s.batch args
row_most s [] = omega arith
row_most s (a ∷ args) = rw (length-append (piece s a) (row_of s args)) (omega (arith, piece_most s a, row_most s args))

-- the parts of a line make up its length
pub whole_length : (s : Style) (name : List ℕ) (args : List Argument)
    → length (head_of s.batch name) + length (row_of s args) + length (end_of s.batch) ≡ length (whole_line s name args)
unfolding whole_line
whole_length s name args = simp length-append
