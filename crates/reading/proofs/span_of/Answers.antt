-- `reading::span_of` meets its contract. Assumes nothing.
use Prim.Native.Nat.{◌/◌, ◌<◌}
use mathlib.Core.Path.{◌≡◌, ap, sym, ◌∙◌}
use mathlib.Core.List.{List, []}
use lib.ListN.{length, get_or}
use borrow.Author.Tests.{le-ltb, lt-ltb}
use native.Mathlib.Omega.{arith}
use Rattle.reading.proofs.Pairs.{pairs, listed, unlisted}
use Rattle.reading.proofs.span_of.Goals.{In-Some}
use Rattle.reading.proofs.span_of.Goals as goal

-- the index is in the table
inside : (c : In-Some) → c.args.index < length c.args.spans.now / 2
inside c = omega (arith, c.in-Some.ensures.lookup.3.0, c.as_chunks.ensures.front_len)

-- and the pair is that of the index
pair_is : (c : In-Some) → c.in-Some.field-0.now ≡ get_or (pairs c.args.spans.now) c.args.index []
pair_is c = c.in-Some.ensures.lookup.3.1 [] ∙ ap (λ (l : List (List _)). get_or l c.args.index []) c.as_chunks.ensures.front

pub returns-in_default : goal.returns-in_default
returns-in_default c =
    let l = c.in_default.ensures.lookup.3 in
    sym (unlisted c.args.text.now c.args.spans.now c.args.index (omega (arith, c.as_chunks.ensures.front_len)))

pub returns-then-text-start : goal.returns-then-text-start
returns-then-text-start c =
    let here = (goal.at.returns-then-text-start c).In-Some in
    sym (listed c.args.text.now c.args.spans.now c.args.index _ (inside here) (pair_is here) ∙ rw (lt-ltb _ _ c.if-text-start.true))

pub returns-else-text-start : goal.returns-else-text-start
returns-else-text-start c =
    let here = (goal.at.returns-else-text-start c).In-Some in
    sym (listed c.args.text.now c.args.spans.now c.args.index _ (inside here) (pair_is here) ∙ rw (le-ltb _ _ c.if-text-start.false))
