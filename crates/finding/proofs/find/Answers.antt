-- `finding::find` meets its contract. Assumes nothing.
use Prim.Native.Nat.{◌*◌, ◌+◌, zero-le}
use native.Mathlib.Omega.{arith}
use mathlib.Core.Path.{◌∙◌, sym}
use Rattle.keys.specs.Lent.{launch_of}
use Rattle.finding.proofs.Search.{all_counted, all_searched, clipped_lies, found_here, found_on, none_searched}
use lib.ListN.{length}
use borrow.Author.Rules.{rules}
use Rattle.finding.proofs.find.Goals as goal

pub loop-i-init : goal.loop-i-init
loop-i-init c = (zero-le, λ es r. none_searched _ _ es)

pub returns-then-answers : goal.returns-then-answers
returns-then-answers c =
    let s = c.args in
    let l = c.loop-i in
    let lent = launch_of s.lent.now in
    rw c.line_at.ensures
    (record {
      says = λ es r. found_here r s.fingerprint lent l.i (omega (arith, c.loop-i-test.true, all_counted r _ (c.min-n.ensures ∙ rw c.word_at.ensures))) (l.invariant.1 es r) (sym c.answers.ensures ∙ c.if-answers.true);
      lies = clipped_lies s.index.now (2 + 6 * l.i) (length s.units.now);
    })

pub loop-i-preserved : goal.loop-i-preserved
loop-i-preserved c =
    let s = c.args in
    let l = c.loop-i in
    let lent = launch_of s.lent.now in
    (search rules, λ es r. found_on r s.fingerprint lent l.i (omega (arith, c.loop-i-test.true, all_counted r _ (c.min-n.ensures ∙ rw c.word_at.ensures))) (l.invariant.1 es r) (sym c.answers.ensures ∙ c.if-answers.false))

pub returns : goal.returns
returns c =
    record {
      says = λ es r. all_searched (c.loop-i.invariant.1 es r) (omega (arith, c.loop-i-test.false, all_counted r _ (c.min-n.ensures ∙ rw c.word_at.ensures)));
      lies = tt;
    }
