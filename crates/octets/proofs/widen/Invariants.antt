-- The invariant of `octets::widen`. Assumes nothing.
use Rattle.stores.proofs.Clip.{Storing}
use Rattle.octets.proofs.widen.Given as goal

abbrev pub invariant-loop-i : goal.invariant-loop-i
invariant-loop-i l = Storing l.n 0 l.bytes l.initial.units l.units l.i
