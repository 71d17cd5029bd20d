-- The invariant and the measure of `scans::find_nul`. Assumes nothing.
use Prim.Native.Nat.{◌-◌, ◌≤◌}
use lib.ListN.{length}
use Rattle.rules.specs.Choice.{flip}
use Rattle.rules.specs.Unit.{is_nul}
use Rattle.laws.specs.Scan.{Passed}
use Rattle.scans.proofs.find_nul.Given as goal

abbrev pub invariant-loop-i : goal.invariant-loop-i
invariant-loop-i l = (l.i ≤ length l.units) × Passed (λ x. flip (is_nul x)) l.units l.i

abbrev pub decreases-loop-i : goal.decreases-loop-i
decreases-loop-i l = length l.units - l.i
