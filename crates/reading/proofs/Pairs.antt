-- The span of an argument, by the pairs of a table. Assumes nothing.
use Prim.Native.Nat.{ℕ, zero, suc, ◌+◌, ◌*◌, ◌/◌, ◌≤◌, ◌<◌}
use native.Mathlib.Nat.{add-zero}
use native.Mathlib.Omega.{arith}
use mathlib.Core.Path.{◌≡◌, refl, ap, ◌∙◌}
use mathlib.Core.List.{List, []}
use lib.ListN.{length, get_or, take, drop}
use lib.Seq.{drop-drop}
use borrow.Author.Tests.{le-ltb, lt-ltb}
use Rattle.std.proofs.lemmas.List.{get_or-drop, get_or-take}
use Rattle.std.specs.Simd.{first_chunks}
use Rattle.rules.specs.Choice.{pick}
use Rattle.rules.specs.Record.{exceeds}
use Rattle.reading.specs.Span.{argument_span}

-- the pairs of a table
abbrev pub pairs : List ℕ → List (List ℕ)
pairs spans = first_chunks 2 (length spans / 2) spans

pair_at : (k i : ℕ) (spans : List ℕ) → i < k → get_or (first_chunks 2 k spans) i [] ≡ take 2 (drop (2 * i) spans)
pair_at zero i spans h = absurd (omega arith)
pair_at (suc k) zero spans h = refl
pair_at (suc k) (suc i) spans h =
    let n : 2 * suc i ≡ 2 + 2 * i = omega arith in
    pair_at k i (drop 2 spans) (omega arith) ∙ rw (drop-drop (2 * i) 2 spans, n)

module _ (text spans : List ℕ) (index : ℕ) where
  -- no pair of the index
  pub unlisted : length spans / 2 ≤ index → argument_span text spans index ≡ record { start = 0; len = 0 }
  unfolding argument_span
  unlisted h = rw (le-ltb index (length spans / 2) h)

  -- a pair, which is start and length
  pub listed : (pair : List ℕ) → index < length spans / 2 → pair ≡ get_or (pairs spans) index []
      → argument_span text spans index
      ≡ pick (exceeds text (get_or pair 0 0) (get_or pair 1 0)) (record { start = 0; len = 0 }) (record { start = get_or pair 0 0; len = get_or pair 1 0 })
  unfolding argument_span
  listed pair h e =
      let same : pair ≡ take 2 (drop (2 * index) spans) = e ∙ pair_at (length spans / 2) index spans h in
      let first : get_or pair 0 0 ≡ get_or spans (2 * index) 0 = ap (λ (l : List ℕ). get_or l 0 0) same ∙ get_or-take 2 (drop (2 * index) spans) 0 0 (omega arith) ∙ get_or-drop (2 * index) spans 0 0 ∙ rw add-zero in
      let second : get_or pair 1 0 ≡ get_or spans (2 * index + 1) 0 = ap (λ (l : List ℕ). get_or l 1 0) same ∙ get_or-take 2 (drop (2 * index) spans) 1 0 (omega arith) ∙ get_or-drop (2 * index) spans 1 0 in
      rw (lt-ltb index (length spans / 2) h, first, second)
