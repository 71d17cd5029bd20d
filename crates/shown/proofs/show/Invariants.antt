-- The invariant and the measure of `shown::show`. Assumes nothing.
use Rattle.std.proofs.Common.{length}
use Rattle.shown.proofs.Showing.{Showing}
use Rattle.shown.proofs.show.Given as goal

abbrev pub invariant-loop-to : goal.invariant-loop-to
invariant-loop-to l = Showing l.fn.units l.initial.out l.out l.rest l.to

abbrev pub decreases-loop-to : goal.decreases-loop-to
decreases-loop-to l = length l.rest
