-- `scans::has_blank` meets its contract. Assumes nothing.
use Rattle.scans.proofs.has_blank.Goals as goal

pub returns : goal.returns
returns c = c.has_either.ensures
