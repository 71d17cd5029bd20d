-- `fields::taking::take_field` meets its contract. Assumes nothing.
use native.Mathlib.Omega.{arith}
use Rattle.std.proofs.lemmas.Bool.Decides.{nat_tests}
use Rattle.fields.proofs.Holding.{no_field}
use Rattle.fields.proofs.taking.take_field.Goals as goal

pub returns-then-is_empty : goal.returns-then-is_empty
returns-then-is_empty c = no_field _ _ _ (grind (arith, nat_tests))

pub returns-in-Count : goal.returns-in-Count
returns-in-Count c =
    rw c.in-Count.is (c.take_count.ensures _)

pub returns-in-Wide : goal.returns-in-Wide
returns-in-Wide c = rw c.in-Wide.is (c.take_wide.ensures _)
