-- `scans::find_nul` meets its contract. Assumes nothing.
use native.Mathlib.Omega.{arith}
use mathlib.Core.Path.{◌∙◌, sym}
use Rattle.rules.specs.Unit.{is_nul}
use Rattle.laws.specs.Scan.{before_one, many_more, none_passed, rest_passed, rest_within}
use borrow.Author.Rules.{rules}
use Rattle.scans.proofs.find_nul.Goals as goal

pub loop-i-init : goal.loop-i-init
loop-i-init c = (search rules, none_passed _ _)

pub overflow_add-result : goal.overflow_add-result
overflow_add-result c = omega (arith, rest_within _ _ _ c.loop-i.invariant.1 (c.find_slowly.ensures ∙ before_one 0 _))

pub returns-then-eight_have : goal.returns-then-eight_have
returns-then-eight_have c = rest_passed _ _ _ c.loop-i.invariant.1 (c.find_slowly.ensures ∙ before_one 0 _)

pub loop-i-preserved : goal.loop-i-preserved
loop-i-preserved c =
    let l = c.loop-i in
    let xs = c.args.units.now in
    let none = sym c.eight_have.ensures ∙ c.if-eight_have.false in
    (search rules, many_more is_nul xs l.i 8 l.invariant.1 (search rules) none)

pub overflow_add-result-2 : goal.overflow_add-result-2
overflow_add-result-2 c = omega (arith, rest_within _ _ _ c.loop-i.invariant.1 (c.find_slowly-2.ensures ∙ before_one 0 _))

pub returns : goal.returns
returns c = rest_passed _ _ _ c.loop-i.invariant.1 (c.find_slowly-2.ensures ∙ before_one 0 _)
