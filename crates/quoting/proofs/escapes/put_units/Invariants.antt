-- The invariant of `quoting::escapes::put_units`. Assumes nothing.
use Rattle.quoting.proofs.Midway.{Midway}
use Rattle.quoting.proofs.escapes.put_units.Given as goal

abbrev pub invariant-loop-unit : goal.invariant-loop-unit
invariant-loop-unit l = Midway l.batch l.initial.spot.k l.part l.initial.spot.to l.initial.out l.unit-index l.spot.to l.spot.k l.out
