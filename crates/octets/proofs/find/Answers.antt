-- `octets::find` meets its contract. Assumes nothing.
use Rattle.std.proofs.Common.{◌≡◌, length, arith, ◌∙◌}
use borrow.Author.Tests.{eq-eqb, ne_eqb}
use Rattle.laws.specs.Scan.{all_passed, none_passed, one_more, stopped}
use Rattle.octets.proofs.find.Goals as goal

pub loop-i-init : goal.loop-i-init
loop-i-init c = none_passed _ _

pub returns-then-x-byte : goal.returns-then-x-byte
returns-then-x-byte c = stopped _ _ _ c.loop-i.invariant c.loop-i-test.true (rw (eq-eqb _ _ c.if-x-byte.true))

pub loop-i-preserved : goal.loop-i-preserved
loop-i-preserved c = one_more _ _ _ c.loop-i.invariant c.loop-i-test.true (rw (ne_eqb _ _ c.if-x-byte.false))

pub returns : goal.returns
returns c =
    let e : length c.args.bytes.now ≡ c.loop-i.i = omega (arith, c.loop-i.auto.i-end, c.loop-i-test.false) in
    e ∙ all_passed _ _ _ c.loop-i.invariant c.loop-i-test.false
