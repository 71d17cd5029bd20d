-- `aslapush::aslapush_status_text` meets its contract. Assumes nothing.
use Rattle.aslapush.proofs.Telling.{told_written}
use Rattle.aslapush.proofs.aslapush_status_text.Goals as goal

pub returns : goal.returns
returns c = told_written c.status_text-filled.ensures c.tell.ensures
