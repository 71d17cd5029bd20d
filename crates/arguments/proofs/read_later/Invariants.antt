-- The invariant and the measure of `arguments::read_later`. Assumes nothing.
use Prim.Native.Nat.{◌-◌}
use lib.ListN.{length}
use Rattle.arguments.specs.Next.{later_argument}
use Rattle.arguments.proofs.Still.{Still}
use Rattle.arguments.proofs.read_later.Given as goal

abbrev pub invariant-loop-here : goal.invariant-loop-here
invariant-loop-here l = Still later_argument l.rest l.initial.out l.out l.here.used l.here.units l.here.quoted

abbrev pub decreases-loop-here : goal.decreases-loop-here
decreases-loop-here l = length l.rest - l.here.used
