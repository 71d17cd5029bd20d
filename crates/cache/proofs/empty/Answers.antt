-- `cache::empty` meets its contract. Assumes nothing.
use Rattle.cache.proofs.Saying.{emptied}
use Rattle.cache.proofs.empty.Goals as goal

pub returns : goal.returns
returns c = emptied c.args.index.now c.requires
