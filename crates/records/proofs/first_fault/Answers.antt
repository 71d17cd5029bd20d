-- `records::first_fault` meets its contract. Assumes nothing.
use Prim.Native.Nat.{◌/◌}
use mathlib.Core.Path.{◌∙◌, ◌≡◌, refl, sym}
use lib.ListN.{length}
use Rattle.rules.specs.Record.{argument_fault}
use Rattle.records.proofs.Judged.{all_judged, cut_judged, one_judged}
use native.Mathlib.Omega.{arith}
use borrow.Author.Rules.{rules}
use Rattle.records.proofs.first_fault.Goals as goal

pub loop-i-init : goal.loop-i-init
unfolding argument_fault
loop-i-init c = (search rules, refl)

pub returns-then-is_wrong : goal.returns-then-is_wrong
returns-then-is_wrong c =
    let l = c.loop-i in
    let a = c.args in
    sym (l.invariant.1 ∙ one_judged a.text.now a.records.now l.i c.record_at.result c.is_wrong.result (search rules) c.record_at.ensures c.is_wrong.ensures ∙ rw c.if-is_wrong.true)

pub loop-i-preserved : goal.loop-i-preserved
loop-i-preserved c =
    let l = c.loop-i in
    let a = c.args in
    (search rules, l.invariant.1 ∙ one_judged a.text.now a.records.now l.i c.record_at.result c.is_wrong.result (search rules) c.record_at.ensures c.is_wrong.ensures ∙ rw c.if-is_wrong.false)

pub returns-then-whole-records : goal.returns-then-whole-records
returns-then-whole-records c =
    let l = c.loop-i in
    let a = c.args in
    let e : length a.records.now / 3 ≡ l.i = omega arith in
    rw e (sym (l.invariant.1 ∙ cut_judged a.text.now a.records.now l.i (omega arith) (omega arith)))

pub returns : goal.returns
returns c =
    let l = c.loop-i in
    let a = c.args in
    sym (l.invariant.1 ∙ all_judged a.text.now a.records.now l.i (omega arith))
