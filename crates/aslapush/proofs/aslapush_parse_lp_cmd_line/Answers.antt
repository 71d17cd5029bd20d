-- `aslapush::aslapush_parse_lp_cmd_line` meets its contract. Assumes nothing.
use Rattle.aslapush.proofs.Telling.{told_parsed}
use Rattle.aslapush.proofs.aslapush_parse_lp_cmd_line.Goals as goal

pub returns : goal.returns
returns c = told_parsed c.parse_lp_cmd_line-parsed.ensures c.tell.ensures
