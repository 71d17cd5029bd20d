-- The invariant and the measure of `stores::copy_slowly`. Assumes nothing.
use Rattle.stores.proofs.Clip.{Storing}
use Rattle.stores.proofs.copy_slowly.Given as goal

abbrev pub invariant-loop-i : goal.invariant-loop-i
invariant-loop-i l = Storing l.n l.at l.run l.initial.out l.out l.i
