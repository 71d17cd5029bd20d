-- `comparing::same_units` meets its contract. Assumes nothing.
use mathlib.Core.Path.{sym}
use Rattle.laws.specs.Equal.{unequal}
use Rattle.comparing.proofs.same_units.Goals as goal

pub returns-then-n-b : goal.returns-then-n-b
returns-then-n-b c = sym (unequal _ _ c.if-n-b.true)
