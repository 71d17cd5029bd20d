-- `quoting::escapes::put_form` meets its contract. Assumes nothing.
use mathlib.Core.Path.{◌∙◌, sym}
use Rattle.quoting.proofs.Plainly.{plain_formed}
use Rattle.quoting.proofs.escapes.put_form.Goals as goal

pub returns-then-is_plain : goal.returns-then-is_plain
returns-then-is_plain c =
    let a = c.args in
    rw (plain_formed a.shape.batch a.arg.now (sym c.is_plain.ensures ∙ c.if-is_plain.true) a.shape.quoted) c.put_plain.ensures
