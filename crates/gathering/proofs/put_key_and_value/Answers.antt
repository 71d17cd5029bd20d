-- `gathering::put_key_and_value` meets its contract. Assumes nothing.
use Rattle.std.proofs.Common.{arith}
use Rattle.terminal.specs.Word.{spanned_in}
use Rattle.gathering.proofs.put_key_and_value.Goals as goal

pub returns-then-put_span : goal.returns-then-put_span
returns-then-put_span c =
    λ h.
    let key = c.put_span in
    omega (arith, spanned_in c.put_span-then-put_span.ensures h, key.auto)
