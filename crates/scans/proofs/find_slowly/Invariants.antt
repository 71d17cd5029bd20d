-- The invariant of `scans::find_slowly`. Assumes nothing.
use Rattle.rules.specs.Choice.{flip}
use Rattle.laws.specs.Scan.{Passed, is_one_of}
use Rattle.scans.proofs.find_slowly.Given as goal

abbrev pub invariant-loop-i : goal.invariant-loop-i
invariant-loop-i l = Passed (λ x. flip (is_one_of l.a l.b l.c l.d x)) l.units l.i
