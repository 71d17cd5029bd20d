-- The invariant of `octets::find`. Assumes nothing.
use lib.Dec.{eqb}
use Rattle.rules.specs.Choice.{flip}
use Rattle.laws.specs.Scan.{Passed}
use Rattle.octets.proofs.find.Given as goal

abbrev pub invariant-loop-i : goal.invariant-loop-i
invariant-loop-i l = Passed (λ x. flip (eqb x l.byte)) l.bytes l.i
