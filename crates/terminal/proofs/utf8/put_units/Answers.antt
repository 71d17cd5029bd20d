-- `terminal::utf8::put_units` meets its contract. Assumes nothing.
use Rattle.std.proofs.Common.{rules}
use Rattle.terminal.proofs.Units.{one_unit, two_units}
use Rattle.terminal.proofs.utf8.put_units.Goals as goal

pub returns-in-Ok : goal.returns-in-Ok
returns-in-Ok c = let e = c.in-Ok.ensures in one_unit _ _ e.0 (rw e.1 at c.put.ensures)

pub returns : goal.returns
returns c = two_units _ _ _ (search rules) c.put-2.ensures c.put-3.ensures
