-- `replies::shows::put_unit` meets its contract. Assumes nothing.
use Rattle.replies.proofs.Putting.{front_is, plain_small}
use native.Mathlib.Omega.{arith}
use lib.Seq.{length-take-le}
use mathlib.Core.Path.{◌∙◌, sym}
use Rattle.octets.specs.Braced.{braced_short}
use Rattle.forms.specs.Form.{shown_unit}
use Rattle.replies.proofs.shows.put_unit.Goals as goal

pub overflow_cast-unit : goal.overflow_cast-unit
overflow_cast-unit c = omega (arith, plain_small _ c.args.unit (sym c.is_plain.ensures ∙ c.if-is_plain.true))

pub returns-then-is_plain : goal.returns-then-is_plain
unfolding shown_unit
returns-then-is_plain c =
    rw (sym c.is_plain.ensures ∙ c.if-is_plain.true) c.put.ensures

pub slice_bounds-braces-end : goal.slice_bounds-braces-end
slice_bounds-braces-end c =
    omega (arith, c.put_braced-n.ensures.ends, braced_short c.args.unit)

pub slice_bounds-put_run-end : goal.slice_bounds-put_run-end
slice_bounds-put_run-end c =
    sym (length-take-le _ _ (omega (arith, c.put_braced-n.ensures.ends, braced_short c.args.unit, c.put_braced-n.auto.out)))

pub returns : goal.returns
unfolding shown_unit
returns c =
    rw (sym c.is_plain.ensures ∙ c.if-is_plain.false) (rw (front_is c.put_braced-n.ensures (braced_short c.args.unit)) at c.put_run.ensures)
