-- `aslapush::aslapush_make_bat_command_line` meets its contract. Assumes nothing.
use Rattle.aslapush.proofs.Telling.{told_written}
use Rattle.aslapush.proofs.aslapush_make_bat_command_line.Goals as goal

pub returns : goal.returns
returns c = told_written c.make_bat_command_line-built.ensures c.tell.ensures
