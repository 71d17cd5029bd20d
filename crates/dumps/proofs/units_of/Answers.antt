-- `dumps::units_of` meets its contract. Assumes nothing.
use Rattle.std.proofs.Common.{rules}
use Rattle.dumps.proofs.Dumping.{ended, started, turn}
use Rattle.dumps.proofs.units_of.Goals as goal

pub loop-rest-init : goal.loop-rest-init
loop-rest-init c = started

pub loop-rest-preserved : goal.loop-rest-preserved
loop-rest-preserved c = turn c.loop-rest.invariant (search rules) c.unit_of.ensures c.put.ensures

pub returns : goal.returns
returns c = ended c.loop-rest.invariant (search rules)
