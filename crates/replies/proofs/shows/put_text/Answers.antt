-- `replies::shows::put_text` meets its contract. Assumes nothing.
use native.Mathlib.Omega.{arith}
use Rattle.std.proofs.Common.{rules}
use Rattle.std.proofs.lemmas.Bool.Decides.{nat_tests}
use Rattle.forms.specs.Form.{shown_unit}
use Rattle.replies.proofs.Putting.{empty_is, text_is}
use Rattle.replies.proofs.shows.put_text.Goals as goal

pub returns-then-is_empty : goal.returns-then-is_empty
returns-then-is_empty c =
    rw (empty_is c.args.colons c.args.text.now (grind (arith, nat_tests))) c.put_run.ensures

pub returns : goal.returns
returns c =
    rw (text_is c.args.colons c.args.text.now (grind (arith, nat_tests))) (c.put_each.ensures (shown_unit c.args.colons) (λ d e q r x h. search rules))
