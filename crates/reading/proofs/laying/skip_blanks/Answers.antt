-- `reading::laying::skip_blanks` meets its contract. Assumes nothing.
use mathlib.Core.Path.{ap}
use Prim.Native.Nat.{◌+◌, ℕ}
use native.Mathlib.Omega.{arith}
use Rattle.rules.specs.Unit.{is_blank}
use Rattle.laws.specs.Run.{RunAt, run_at}
use Rattle.reading.proofs.laying.skip_blanks.Goals as goal

-- the run of blanks at i
run_is : (c : goal.After-blanks) → RunAt is_blank c.args.line.now c.args.i c.blanks.result
run_is c = run_at is_blank c.args.line.now c.args.i c.requires c.blanks.ensures

pub overflow_add-result : goal.overflow_add-result
overflow_add-result c = omega (arith, run_is c)

pub returns : goal.returns
returns c = (ap (λ (k : ℕ). c.args.i + k) (run_is c).0, (run_is c).1)
