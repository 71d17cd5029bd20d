-- `reading::argument` meets its contract. Assumes nothing.
use native.Mathlib.Omega.{arith}
use Prim.Native.Nat.{◌+◌, ◌-◌, ◌≤◌, ℕ}
use mathlib.Core.Path.{◌∙◌, ◌≡◌, ap}
use mathlib.Core.List.{List}
use lib.ListN.{drop, length, take}
use Rattle.reading.specs.declared.Span.{Span}
use Rattle.reading.specs.Span.{argument_span, span_inside, span_part}
use Rattle.reading.proofs.argument.Goals as goal

-- the span lies in the text
inside : (text spans : List ℕ) (index : ℕ) {span : Span} → span ≡ argument_span text spans index → span.start + span.len ≤ length text
inside text spans index e = rw e (span_inside text spans index)

pub overflow_add-result : goal.overflow_add-result
overflow_add-result c = let a = c.args in omega (arith, inside a.text.now a.spans.now a.index c.span_of-span.ensures)

pub offset_bounds-text-span : goal.offset_bounds-text-span
offset_bounds-text-span c = let a = c.args in omega (arith, inside a.text.now a.spans.now a.index c.span_of-span.ensures)

pub slice_bounds-result-end : goal.slice_bounds-result-end
slice_bounds-result-end c = let a = c.args in inside a.text.now a.spans.now a.index c.span_of-span.ensures

pub returns : goal.returns
returns c =
    let a = c.args in
    let r = c.span_of-span.result in
    let e : r.start + r.len - r.start ≡ r.len = omega arith in
    ap (λ (k : ℕ). take k (drop r.start a.text.now)) e ∙ rw c.span_of-span.ensures (span_part a.text.now a.spans.now a.index)
