-- `forms::numbers::digits_of` meets its contract. Assumes nothing.
use mathlib.Core.Path.{◌∙◌, sym}
use Rattle.forms.proofs.Scanning.{one_counted}
use Rattle.forms.proofs.numbers.digits_of.Goals as goal

pub loop-byte-preserved : goal.loop-byte-preserved
loop-byte-preserved c = one_counted _ _ c.loop-byte.invariant c.loop-byte-test.true (sym c.in_ok-number.was ∙ c.with_digit.ensures)
