-- `decisions::settles` meets its contract. Assumes nothing.
use Rattle.decisions.proofs.Deciding.{forcing_bits}
use Rattle.decisions.proofs.settles.Goals as goal

pub returns-then-batch : goal.returns-then-batch
returns-then-batch c = rw c.if-batch.true (forcing_bits c.args.class c.requires)
