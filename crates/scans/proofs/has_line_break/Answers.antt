-- `scans::has_line_break` meets its contract. Assumes nothing.
use Rattle.scans.proofs.has_line_break.Goals as goal

pub returns : goal.returns
returns c = c.has_either.ensures
