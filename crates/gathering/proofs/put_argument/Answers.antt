-- `gathering::put_argument` meets its contract. Assumes nothing.
use native.Mathlib.Omega.{arith}
use Rattle.terminal.specs.Word.{spanned_in}
use Rattle.gathering.proofs.put_argument.Goals as goal

pub returns : goal.returns
returns g c = omega (arith, spanned_in c.put_span.ensures c.if-not-put_span.false, c.put.auto)
