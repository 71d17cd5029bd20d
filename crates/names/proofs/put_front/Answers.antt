-- `names::put_front` meets its contract. Assumes nothing.
use Rattle.rules.specs.Unit.{units}
use Rattle.rules.specs.Building.{batch_front}
use Rattle.names.specs.Name.{front_of}
use Rattle.names.proofs.put_front.Goals as goal

pub returns-then-batch : goal.returns-then-batch
unfolding front_of batch_front units
returns-then-batch c = record { counts = rw c.if-batch.true; stores = rw c.if-batch.true c.copy_run.ensures }

pub returns-else-batch : goal.returns-else-batch
unfolding front_of
returns-else-batch c = record { counts = rw c.if-batch.false; stores = rw c.if-batch.false }
