-- The invariant and the measure of `keys::laying::put_arguments`. Assumes nothing.
use Prim.Native.Nat.{◌≤◌}
use Rattle.laws.specs.Placed.{Left}
use Rattle.keys.specs.Laid.{laid_arguments}
use Rattle.keys.proofs.Walk.{arguments_from}
use Rattle.keys.proofs.laying.put_arguments.Given as goal

abbrev pub invariant-loop-i : goal.invariant-loop-i
invariant-loop-i l = (l.i ≤ l.n) × Left (laid_arguments (arguments_from l.lent.text.now l.lent.records.now 0)) l.at l.initial.out (laid_arguments (arguments_from l.lent.text.now l.lent.records.now l.i)) l.to l.out
