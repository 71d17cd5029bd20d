-- `fields::taking::take_span` meets its contract. Assumes nothing.
use Rattle.fields.proofs.Holding.{text_ill}
use Rattle.fields.proofs.taking.take_span.Goals as goal

pub returns-in_err-n : goal.returns-in_err-n
returns-in_err-n c = rw c.from_residual.ensures (text_ill _ _ _ (rw c.in_err-n.was at c.take_text.ensures))
