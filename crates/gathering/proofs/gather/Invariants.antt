-- The invariant of `gathering::gather`. Assumes nothing.
use Rattle.gathering.proofs.Kept.{Spotted}
use Rattle.gathering.proofs.gather.Given as goal

abbrev pub invariant-loop-index : goal.invariant-loop-index
invariant-loop-index g l = Spotted l.initial.text l.initial.table l.text l.table l.spot.at l.spot.numbers
