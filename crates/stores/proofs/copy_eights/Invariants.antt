-- The invariant of `stores::copy_eights`. Assumes nothing.
use Prim.Native.Nat.{◌*◌}
use mathlib.Core.Path.{◌≡◌}
use lib.ListN.{length, take}
use lib.Seq.{sets}
use Rattle.stores.proofs.copy_eights.Given as goal

abbrev pub invariant-loop-k : goal.invariant-loop-k
invariant-loop-k l = (l.out ≡ sets l.initial.out l.at (take (8 * l.k) l.run)) × (length l.out ≡ length l.initial.out)
