-- The invariant and the measure of `comparing::all_same`. Assumes nothing.
use Prim.Native.Nat.{◌≤◌}
use lib.ListN.{length, take}
use mathlib.Core.Path.{◌≡◌}
use Rattle.rules.specs.Choice.{equal}
use Rattle.comparing.proofs.all_same.Given as goal

abbrev pub invariant-loop-i : goal.invariant-loop-i
invariant-loop-i l = (l.i ≤ length l.a) × (l.same ≡ equal (take l.i l.a) (take l.i l.b))
