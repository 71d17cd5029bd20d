-- `aslapush::aslapush_read_envp` meets its contract. Assumes nothing.
use Rattle.aslapush.proofs.Telling.{told_listed}
use Rattle.aslapush.proofs.aslapush_read_envp.Goals as goal

pub returns : goal.returns
returns c = told_listed c.read_envp-listed.ensures c.tell.ensures
