-- The invariant of `comparing::eights_same`. Assumes nothing.
use Prim.Native.Nat.{◌*◌}
use lib.ListN.{take}
use mathlib.Core.Path.{◌≡◌}
use Rattle.comparing.proofs.eights_same.Given as goal

abbrev pub invariant-loop-k : goal.invariant-loop-k
invariant-loop-k l = take (8 * l.k) l.a ≡ take (8 * l.k) l.b
