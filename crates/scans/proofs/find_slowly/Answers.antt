-- `scans::find_slowly` meets its contract. Assumes nothing.
use Rattle.std.proofs.Common.{◌≡◌, length, arith, sym, ap, ◌∙◌}
use Rattle.rules.specs.Choice.{flip}
use Rattle.laws.specs.Scan.{all_passed, none_passed, one_more, stopped}
use Rattle.scans.proofs.find_slowly.Goals as goal

pub loop-i-init : goal.loop-i-init
loop-i-init c = none_passed _ _

pub loop-i-preserved : goal.loop-i-preserved
loop-i-preserved c = one_more _ _ _ c.loop-i.invariant c.loop-i-test.true (ap flip (sym c.is_one_of.ensures ∙ c.if-is_one_of.false))

pub returns-then-is_one_of : goal.returns-then-is_one_of
returns-then-is_one_of c = stopped _ _ _ c.loop-i.invariant c.loop-i-test.true (ap flip (sym c.is_one_of.ensures ∙ c.if-is_one_of.true))

pub returns : goal.returns
returns c =
    let e : length c.args.units.now ≡ c.loop-i.i = omega (arith, c.loop-i.auto.i-end, c.loop-i-test.false) in
    e ∙ all_passed _ _ _ c.loop-i.invariant c.loop-i-test.false
