-- `fields::taking::take_wide` meets its contract. Assumes nothing.
use Rattle.fields.proofs.Holding.{wide_ill}
use Rattle.fields.proofs.taking.take_wide.Goals as goal

pub returns-in_err-number : goal.returns-in_err-number
returns-in_err-number c = λ text. rw c.from_residual.ensures (wide_ill _ _ (rw c.in_err-number.was at c.number_of.ensures))
