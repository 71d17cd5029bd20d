-- The invariant and the measure of `dumps::units_of`. Assumes nothing.
use Rattle.std.proofs.Common.{length}
use Rattle.dumps.proofs.Dumping.{Midway}
use Rattle.dumps.proofs.units_of.Given as goal

abbrev pub invariant-loop-rest : goal.invariant-loop-rest
invariant-loop-rest l = Midway l.fn.bytes l.initial.out l.out l.rest l.to

abbrev pub decreases-loop-rest : goal.decreases-loop-rest
decreases-loop-rest l = length l.rest
