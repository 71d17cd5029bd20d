-- Fields, put behind what a text and a table of numbers hold. Assumes nothing.
use Prim.Native.Nat.{ℕ, ◌+◌, ◌/◌, ◌%◌, ◌≤◌, ◌<◌}
use native.Mathlib.Omega.{arith}
use mathlib.Core.Path.{◌≡◌, refl, ap}
use mathlib.Core.Bool.{Bool}
use mathlib.Core.List.{List, [], ◌∷◌, ◌++◌}
use lib.ListN.{length, take, length-append}
use lib.Seq.{length-take-le}
use Rattle.std.specs.Prelude.{Option, Some, None}
use Rattle.forms.specs.Text.{text_of, Filled}
use Rattle.forms.specs.Number.{number_of, Numbered}
use Rattle.fields.specs.Field.{Flat, follow, spanned, field_on, held_in, Pushed, Grew}
use Rattle.fields.specs.declared.taking.Field.{Field}
use Rattle.fields.specs.declared.taking.Held.{Held}

module _ (word : List ℕ) {numbers numbers' : List ℕ} {h k : Held} where
  -- a number
  pub count_grew : {most n : ℕ} → Numbered (number_of most word) most (Some n) → Pushed h (n ∷ []) h.units k numbers numbers' → (text : List ℕ)
      → Grew (field_on (Field.Count most) (held_in h text numbers) word) (length word) h (Some k) text numbers'
  unfolding field_on
  count_grew e p text = record { says = rw (← e.says, p.holds, p.texts); within = (omega (arith, p.texts), omega (arith, p.counts)) }

  -- a wide number
  pub wide_grew : {n : ℕ} → 0 < length word → Numbered (number_of 18446744073709551615 word) 18446744073709551615 (Some n)
      → Pushed h (n % 4294967296 ∷ n / 4294967296 ∷ []) h.units k numbers numbers' → (text : List ℕ)
      → Grew (field_on Field.Wide (held_in h text numbers) word) (length word) h (Some k) text numbers'
  unfolding field_on
  wide_grew s e p text = record { says = rw (← e.says, p.holds, p.texts); within = (omega (arith, p.texts), omega (arith, p.counts)) }

  -- a text
  pub text_grew : (colons : Bool) {n : ℕ} {text text' : List ℕ} → 0 < length word → h.units + length word ≤ length text
      → Filled (text_of colons word) (length word) h.units (Some n) text text' → Pushed h (h.units ∷ n ∷ []) (h.units + n) k numbers numbers'
      → Grew (field_on (Field.Text colons) (held_in h text numbers) word) (length word) h (Some k) text' numbers'
  unfolding field_on
  text_grew colons {n} {text} {text'} s g f p = record { says = spans (text_of colons word) f; within = (omega (arith, p.texts, f.short), omega (arith, p.counts)) }
    where
      spans : (t : Option (List ℕ)) → Filled t (length word) h.units (Some n) text text'
          → Some (held_in k text' numbers') ≡ follow t (λ units. Some (spanned (held_in h text numbers) units))
      spans (Some us) f =
          let e : take (h.units + n) text' ≡ take h.units text ++ us = cc f.fills in
          let l : length (take h.units text) ≡ h.units = length-take-le h.units text (omega arith) in
          let m : length (take (h.units + n) text') ≡ h.units + n = length-take-le (h.units + n) text' (omega (arith, f.short, f.same)) in
          let q : n ≡ length us = omega (arith, l, m, simp length-append at (ap length e)) in
          rw (p.holds, p.texts, e, l, ← q)
      spans None f = absurd (let z : ◌≡◌ {A = ℕ} 0 1 = cc f.fills in omega arith)

module _ (word : List ℕ) (flat : Flat) {size : ℕ} {h : Held} {text numbers : List ℕ} where
  -- no number
  pub count_ill : {most : ℕ} → Numbered (number_of most word) most None → Grew (field_on (Field.Count most) flat word) size h None text numbers
  unfolding field_on
  count_ill e = record { says = rw (← e.says); within = tt }

  -- no wide number
  pub wide_ill : Numbered (number_of 18446744073709551615 word) 18446744073709551615 None → Grew (field_on Field.Wide flat word) size h None text numbers
  unfolding field_on
  wide_ill e = record { says = rw (← e.says); within = tt }

  -- no text
  pub text_ill : (colons : Bool) {to : ℕ} {before after : List ℕ} → Filled (text_of colons word) (length word) to None before after
      → Grew (field_on (Field.Text colons) flat word) size h None text numbers
  unfolding field_on
  text_ill colons {to} {before} {after} f = record { says = none (text_of colons word) f; within = tt }
    where
      none : (t : Option (List ℕ)) → Filled t (length word) to None before after → None ≡ follow t (λ units. Some (spanned flat units))
      none (Some us) f = absurd (let z : ◌≡◌ {A = ℕ} 0 1 = cc f.fills in omega arith)
      none None f = refl

-- an empty word is no field
pub no_field : (field : Field) (word : List ℕ) (flat : Flat) {size : ℕ} {h : Held} {text numbers : List ℕ} → length word ≡ 0
    → Grew (field_on field flat word) size h None text numbers
unfolding field_on number_of text_of
no_field field (x ∷ word) flat e = absurd (omega arith)
no_field field [] flat e = record { says = none field; within = tt }
  where
    none : (field : Field) → None ≡ field_on field flat []
    none (Field.Count most) = refl
    none Field.Wide = refl
    none (Field.Text colons) = refl
