-- The invariant and the measure of `stores::repeat`. Assumes nothing.
use lib.ListN.{replicate}
use Rattle.stores.proofs.Clip.{Storing}
use Rattle.stores.proofs.repeat.Given as goal

abbrev pub invariant-loop-i : goal.invariant-loop-i
invariant-loop-i l = Storing l.n l.at (replicate l.count l.unit) l.initial.out l.out l.i
