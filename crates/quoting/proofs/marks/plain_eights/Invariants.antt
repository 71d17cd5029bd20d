-- The invariant and the measure of `quoting::marks::plain_eights`. Assumes nothing.
use Prim.Native.Nat.{◌-◌}
use lib.ListN.{length}
use Rattle.quoting.specs.Emitted.{PlainFront}
use Rattle.quoting.proofs.marks.plain_eights.Given as goal

abbrev pub invariant-loop-n : goal.invariant-loop-n
invariant-loop-n l = PlainFront l.batch l.rest l.n

abbrev pub decreases-loop-n : goal.decreases-loop-n
decreases-loop-n l = length l.rest - l.n
