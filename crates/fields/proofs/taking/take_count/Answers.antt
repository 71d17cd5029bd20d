-- `fields::taking::take_count` meets its contract. Assumes nothing.
use Rattle.fields.proofs.Holding.{count_ill}
use Rattle.fields.proofs.taking.take_count.Goals as goal

pub returns-in_err-number : goal.returns-in_err-number
returns-in_err-number c = λ text. rw c.from_residual.ensures (count_ill _ _ (rw (c.from.ensures, c.in_err-number.was) at c.number_of.ensures))
