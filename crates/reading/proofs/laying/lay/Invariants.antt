-- The invariant and the measure of `reading::laying::lay`. Assumes nothing.
use Prim.Native.Nat.{◌-◌}
use lib.ListN.{length}
use Rattle.reading.proofs.Left.{Laying}
use Rattle.reading.proofs.laying.lay.Given as goal

abbrev pub invariant-loop-i : goal.invariant-loop-i
invariant-loop-i l = Laying l.line l.initial.text l.initial.spans l.initial.n l.initial.count l.initial.i l.text l.spans l.n l.count l.i

abbrev pub decreases-loop-i : goal.decreases-loop-i
decreases-loop-i l = length l.line - l.i
