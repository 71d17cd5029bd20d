-- The invariant and the measure of `entries::walking::walk`. Assumes nothing.
use Prim.Native.Nat.{◌-◌, ◌≤◌}
use mathlib.Core.Path.{◌≡◌}
use lib.ListN.{length}
use Rattle.entries.proofs.Passing.{Walking}
use Rattle.entries.proofs.walking.walk.Given as goal

abbrev pub invariant-loop-at : goal.invariant-loop-at
invariant-loop-at l = (l.at ≤ length l.block) × (length l.spans ≡ length l.initial.spans) × Walking l.block l.initial.spans l.spans l.at l.count

abbrev pub decreases-loop-at : goal.decreases-loop-at
decreases-loop-at l = length l.block - l.at
