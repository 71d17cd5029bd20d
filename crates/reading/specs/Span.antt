-- Where one argument lies in the caller's text, and that this is the argument's part. Assumes nothing.
use Rattle.std.specs.Prelude.{ℕ, ◌+◌, ◌*◌, ◌≤◌, ◌≡◌, Bool, ltb, get_or}
use native.Mathlib.Omega.{arith}
use borrow.Author.Tests.{ltb-false}
use Rattle.std.proofs.Math.Path.{refl}
use Rattle.std.proofs.Math.Bool.{true, false}
use mathlib.Core.List.{List, []}
use Rattle.std.proofs.Math.ListN.{length}
use Rattle.rules.specs.Choice.{pick}
use Rattle.rules.specs.Record.{part, exceeds}
use Rattle.rules.specs.Reading.{places_of, argument_part}
use Rattle.reading.specs.declared.Span.{Span}

-- start and length of one argument's part; 0 and 0 where it is the empty part of an index not in the table or of a span reaching past the text
unfoldable pub argument_span : List ℕ → List ℕ → ℕ → Span
argument_span text spans index =
    let start = get_or spans (2 * index) 0 in
    let size = get_or spans (2 * index + 1) 0 in
    let none : Span = record { start = 0; len = 0 } in
    let named = pick (exceeds text start size) none (record { start = start; len = size }) in
    pick (ltb index (places_of (length spans))) named none

module _ (text spans : List ℕ) (index : ℕ) where
  abbrev start : ℕ
  start = get_or spans (2 * index) 0

  abbrev size : ℕ
  size = get_or spans (2 * index + 1) 0

  abbrev chosen : Bool → Bool → Span
  chosen listed past = let none : Span = record { start = 0; len = 0 } in pick listed (pick past none (record { start = start; len = size })) none

  -- the units that it names are those of the argument's part
  pub span_part : part text (argument_span text spans index).start (argument_span text spans index).len ≡ argument_part text spans index
  unfolding argument_span argument_part
  span_part = go (ltb index (places_of (length spans))) (exceeds text start size)
    where
      go : (b c : Bool) → part text (chosen b c).start (chosen b c).len ≡ pick b (pick c [] (part text start size)) []
      go true true = refl
      go true false = refl
      go false c = refl

  -- it lies in the text
  pub span_inside : (argument_span text spans index).start + (argument_span text spans index).len ≤ length text
  unfolding argument_span
  span_inside = go (ltb index (places_of (length spans))) (exceeds text start size) refl
    where
      go : (b c : Bool) → exceeds text start size ≡ c → (chosen b c).start + (chosen b c).len ≤ length text
      go true true e = omega arith
      go true false e = ltb-false (length text) (start + size) e
      go false c e = omega arith
