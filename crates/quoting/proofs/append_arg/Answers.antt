-- `quoting::append_arg` meets its contract. Assumes nothing.
use native.Mathlib.Omega.{arith}
use Rattle.quoting.proofs.Forming.{form_is, form_most}
use Rattle.quoting.proofs.append_arg.Goals as goal

pub returns-then-not-is_regular : goal.returns-then-not-is_regular
returns-then-not-is_regular c = rw (← c.is_regular.ensures, c.if-not-is_regular.true) c.put_raw.ensures

pub put_form-requires : goal.put_form-requires
put_form-requires c =
    omega (arith, form_most c.needs_quotes-quoted.result c.args.arg.now)

pub returns : goal.returns
returns c =
    let a = c.args in
    rw (← c.is_regular.ensures, c.if-not-is_regular.false, ← (form_is a.force_quotes a.arg.now), ← c.needs_quotes-quoted.ensures) c.put_form.ensures
