-- `words::lines::take_words` meets its contract. Assumes nothing.
use Rattle.words.proofs.Lining.{few_gone, ill_gone, length_part, no_letter, none_gone, one_gone}
use native.Mathlib.Omega.{arith}
use Rattle.words.proofs.lines.take_words.Goals as goal

pub loop-at-init : goal.loop-at-init
loop-at-init c = (c.requires, none_gone c.requires.begun)

pub take_word-requires : goal.take_word-requires
take_word-requires c =
    let l = c.loop-at in
    let e = c.word_end-end.ensures in
    let r = l.invariant.0 in
    let g = l.invariant.1 in
    let s = length_part c.args.line.now l.at c.word_end-end.result in
    record { few = omega (arith, e.within, e.behind, r.few, g.units); texts = omega (arith, e.within, e.behind, r.texts, g.units, g.same_text); lists = omega (arith, e.within, e.behind, r.lists, g.counts, g.same_numbers) }

pub overflow_add-i : goal.overflow_add-i
overflow_add-i c =
    omega (arith, c.loop-at.invariant.1.index, c.loop-at-test.true, c.well_formed)

pub loop-at-smaller : goal.loop-at-smaller
loop-at-smaller c =
    omega (arith, c.word_end-end.ensures.within, c.word_end-end.ensures.behind)

pub loop-at-preserved : goal.loop-at-preserved
loop-at-preserved c =
    let l = c.loop-at in
    let t = c.take_word in
    let w = rw (← c.in_ok-shape.was, c.shape_at.ensures, c.in_ok-held.was) at t.ensures in
    let r = l.invariant.0 in
    (r, one_gone l.invariant.1 c.word_end-end.ensures c.loop-at-test.true r.texts r.lists t.auto.text t.auto.numbers w)

pub returns-in_err-shape : goal.returns-in_err-shape
returns-in_err-shape c =
    rw c.from_residual.ensures (no_letter c.loop-at.invariant.1 c.word_end-end.ensures (rw c.in_err-shape.was at c.shape_at.ensures))

pub returns-in_err-held : goal.returns-in_err-held
returns-in_err-held c =
    rw c.from_residual-in_err-held.ensures (ill_gone c.loop-at.invariant.1 c.word_end-end.ensures (rw (← c.in_ok-shape.was, c.shape_at.ensures, c.in_err-held.was) at c.take_word.ensures))

pub returns-then-i-letters : goal.returns-then-i-letters
returns-then-i-letters c = few_gone c.loop-at.invariant.1 c.loop-at-test.false c.if-i-letters.true
