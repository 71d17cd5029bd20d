-- `aslapush::aslapush_make_envp` meets its contract. Assumes nothing.
use Rattle.aslapush.proofs.Telling.{told_written}
use Rattle.aslapush.proofs.aslapush_make_envp.Goals as goal

pub returns : goal.returns
returns c = told_written c.make_envp-filled.ensures c.tell.ensures
