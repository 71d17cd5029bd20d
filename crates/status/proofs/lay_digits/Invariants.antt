-- The invariant and the measure of `status::lay_digits`. Assumes nothing.
use Rattle.status.proofs.Laying.{Laying}
use Rattle.status.proofs.lay_digits.Given as goal

abbrev pub invariant-loop-left : goal.invariant-loop-left
invariant-loop-left l = Laying l.base l.number l.left l.at l.initial.places l.places

abbrev pub decreases-loop-left : goal.decreases-loop-left
decreases-loop-left l = l.left
