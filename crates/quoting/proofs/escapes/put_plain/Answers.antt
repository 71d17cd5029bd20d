-- `quoting::escapes::put_plain` meets its contract. Assumes nothing.
use mathlib.Core.Path.{refl}
use Rattle.laws.specs.Placed.{appended, both_placed}
use Rattle.quoting.proofs.escapes.put_plain.Goals as goal

pub returns : goal.returns
returns c =
    appended (both_placed (both_placed c.put_edge-at.ensures (record { ends = refl; stores = c.copy_run.ensures })) c.put_edge.ensures)
