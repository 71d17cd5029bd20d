-- `scans::find_by_eights` meets its contract. Assumes nothing.
use native.Mathlib.Omega.{arith}
use mathlib.Core.Path.{◌∙◌, ◌≡◌, sym}
use Rattle.rules.specs.Choice.{any}
use Rattle.laws.specs.Any.{any_either}
use Rattle.laws.specs.Scan.{front_passed, is_either, is_one_of, many_more, passed_in, rest_passed, rest_within}
use mathlib.Core.Bool.{false}
use Rattle.rules.specs.Record.{part}
use borrow.Author.Rules.{rules}
use Rattle.scans.proofs.find_by_eights.Goals as goal

pub loop-i-init : goal.loop-i-init
loop-i-init c = let h = front_passed _ _ _ c.requires in (passed_in _ _ h, h)

pub overflow_add-result : goal.overflow_add-result
overflow_add-result c = omega (arith, rest_within _ _ _ c.loop-i.invariant.1 c.find_slowly.ensures)

pub returns-then-eight_have_either : goal.returns-then-eight_have_either
returns-then-eight_have_either c = rest_passed _ _ _ c.loop-i.invariant.1 c.find_slowly.ensures

pub loop-i-preserved : goal.loop-i-preserved
loop-i-preserved c =
    let s = c.args in
    let xs = s.units.now in
    let i = c.loop-i.i in
    let none : any (is_one_of s.a s.b s.c s.d) (part xs i 8) ≡ false =
    sym (any_either (is_either s.a s.b) (is_either s.c s.d) (part xs i 8)) ∙ rw (c.eight_have_either.ensures, c.eight_have_either-in-loop-i.ensures) at c.if-eight_have_either.false in
    (search rules, many_more (is_one_of s.a s.b s.c s.d) xs i 8 c.loop-i.invariant.1 (search rules) none)

pub overflow_add-result-2 : goal.overflow_add-result-2
overflow_add-result-2 c = omega (arith, rest_within _ _ _ c.loop-i.invariant.1 c.find_slowly-2.ensures)

pub returns : goal.returns
returns c = rest_passed _ _ _ c.loop-i.invariant.1 c.find_slowly-2.ensures
