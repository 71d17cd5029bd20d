-- The invariant and the measure of `quoting::escapes::put_content`. Assumes nothing.
use Prim.Native.Nat.{◌-◌, ◌≤◌}
use lib.ListN.{length}
use Rattle.quoting.proofs.Midway.{Midway}
use Rattle.quoting.proofs.escapes.put_content.Given as goal

abbrev pub invariant-loop-i : goal.invariant-loop-i
invariant-loop-i l = (l.i ≤ length l.arg) × Midway l.batch 0 l.arg l.at l.initial.out l.i l.spot.to l.spot.k l.out

abbrev pub decreases-loop-i : goal.decreases-loop-i
decreases-loop-i l = length l.arg - l.i
