-- `octets::digits::put_one` meets its contract. Assumes nothing.
use Rattle.laws.specs.Placed.{unit_placed}
use Rattle.octets.proofs.digits.put_one.Goals as goal

pub returns : goal.returns
returns c = unit_placed _ _ c.put.ensures
