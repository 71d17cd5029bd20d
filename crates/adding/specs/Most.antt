-- No argument takes more units than are counted for it before it is measured. Assumes nothing.
use Rattle.std.specs.Prelude.{ℕ, ◌+◌, ◌≤◌, Bool, true, false, List, length}
use Rattle.std.proofs.Common.{arith}
use Rattle.rules.specs.Record.{Argument, is_regular}
use Rattle.rules.specs.Building.{written}
use Rattle.laws.specs.Choice.{choose}
use Rattle.laws.specs.Length.{form_length, batch_form_length}
use Rattle.adding.specs.declared.styles.Style.{Style}
use Rattle.adding.specs.Judged.{most_units}
use Rattle.adding.specs.Added.{rule_of, piece}

-- a regular argument takes no more, with its space
rule_most : (batch force : Bool) (xs : List ℕ) → length (rule_of batch force xs) + 1 ≤ most_units batch (length xs)
unfolding rule_of
rule_most true force xs = omega (arith, batch_form_length force xs)
rule_most false force xs = omega (arith, form_length force xs)

-- a raw one neither
raw_most : (batch : Bool) (n : ℕ) → n + 1 ≤ most_units batch n
raw_most true n = omega arith
raw_most false n = omega arith

-- so no argument takes more
pub piece_most : (s : Style) (a : Argument) → length (piece s a) ≤ most_units s.batch (length a.content)
piece_most s a =
    let h : length (written (rule_of s.batch) s.force a) + 1 ≤ most_units s.batch (length a.content)
    = choose (λ r. length r + 1 ≤ most_units s.batch (length a.content)) (is_regular a.kind) (rule_most s.batch s.force a.content) (raw_most s.batch (length a.content)) in
    omega arith
