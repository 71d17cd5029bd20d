-- The invariant and the measure of `comparing::parts_same`. Assumes nothing.
use Prim.Native.Nat.{◌-◌, ◌≤◌}
use lib.ListN.{length, take}
use mathlib.Core.Path.{◌≡◌}
use Rattle.comparing.proofs.parts_same.Given as goal

abbrev pub invariant-loop-i : goal.invariant-loop-i
invariant-loop-i l = (l.i ≤ length l.a) × (take l.i l.a ≡ take l.i l.b)

abbrev pub decreases-loop-i : goal.decreases-loop-i
decreases-loop-i l = length l.a - l.i
