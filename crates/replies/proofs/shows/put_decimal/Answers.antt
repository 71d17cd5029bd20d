-- `replies::shows::put_decimal` meets its contract. Assumes nothing.
use Rattle.replies.proofs.Putting.{front_is}
use native.Mathlib.Omega.{arith}
use lib.Seq.{length-take-le}
use mathlib.Core.Path.{sym}
use Rattle.laws.specs.Digits.{digits_short}
use Rattle.replies.specs.Show.{decimal}
use Rattle.replies.proofs.shows.put_decimal.Goals as goal

pub slice_bounds-digits-end : goal.slice_bounds-digits-end
slice_bounds-digits-end c =
    omega (arith, (c.put_digits-n.ensures 19 (omega arith)).ends, digits_short 10 19 c.args.number)

pub slice_bounds-put_run-end : goal.slice_bounds-put_run-end
slice_bounds-put_run-end c =
    sym (length-take-le _ _ (omega (arith, (c.put_digits-n.ensures 19 (omega arith)).ends, digits_short 10 19 c.args.number, c.put_digits-n.auto.out)))

pub returns : goal.returns
unfolding decimal
returns c =
    rw (front_is (c.put_digits-n.ensures 19 (omega arith)) (digits_short 10 19 c.args.number)) at c.put_run.ensures
