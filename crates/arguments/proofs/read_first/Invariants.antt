-- The invariant and the measure of `arguments::read_first`. Assumes nothing.
use Prim.Native.Nat.{◌-◌}
use lib.ListN.{length}
use Rattle.arguments.specs.Next.{first_argument}
use Rattle.arguments.proofs.Still.{Still}
use Rattle.arguments.proofs.read_first.Given as goal

abbrev pub invariant-loop-i : goal.invariant-loop-i
invariant-loop-i l = Still first_argument l.line l.initial.out l.out l.i l.n l.quoted

abbrev pub decreases-loop-i : goal.decreases-loop-i
decreases-loop-i l = length l.line - l.i
