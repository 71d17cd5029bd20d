-- The invariant of `scans::many_have_either`. Assumes nothing.
use Prim.Native.Nat.{◌*◌}
use Rattle.laws.specs.Any.{Open}
use Rattle.laws.specs.Scan.{is_either}
use Rattle.scans.proofs.many_have_either.Given as goal

abbrev pub invariant-loop-k : goal.invariant-loop-k
invariant-loop-k l = Open (is_either l.a l.b) l.units (8 * l.k)
