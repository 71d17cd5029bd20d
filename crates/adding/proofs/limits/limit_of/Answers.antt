-- `adding::limits::limit_of` meets its contract. Assumes nothing.
use Rattle.rules.specs.Building.{batch_limit, line_limit}
use Rattle.adding.specs.Limits.{limit_of}
use Rattle.adding.proofs.limits.limit_of.Goals as goal

pub returns-then-batch : goal.returns-then-batch
unfolding limit_of batch_limit line_limit
returns-then-batch c = rw c.if-batch.true

pub returns-else-batch : goal.returns-else-batch
unfolding limit_of line_limit
returns-else-batch c = rw c.if-batch.false
