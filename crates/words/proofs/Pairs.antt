-- Words with a colon: what stands in front of it and behind it, put behind what a text and a table of numbers hold. Assumes nothing.
use Prim.Native.Nat.{ℕ, ◌+◌, ◌-◌, ◌≤◌, ◌<◌}
use native.Mathlib.Omega.{arith}
use mathlib.Core.Path.{◌≡◌, refl}
use mathlib.Core.List.{List, [], ◌∷◌}
use lib.ListN.{length, take, drop, length-drop, length-take}
use lib.Seq.{length-take-le}
use borrow.Author.Tests.{lt-ltb, le-ltb}
use Rattle.std.specs.Prelude.{Option, Some, None}
use Rattle.laws.specs.Store.{part_is}
use Rattle.fields.specs.Field.{Flat, field_on, held_in, Room, grows_in, Grew}
use Rattle.fields.specs.declared.taking.Field.{Field}
use Rattle.fields.specs.declared.taking.Held.{Held}
use Rattle.words.specs.Shape.{colon_in, shape_at, shape_on}
use Rattle.words.specs.declared.shapes.Shape.TheVariants as Shape

-- what grows within a part and the part behind it grows within both
grows_more : (r : Option Held) (h k : Held) (a b size : ℕ) → k.units ≤ h.units + a → k.count ≤ h.count + a + 1 → a + b + 1 ≤ size → grows_in k b r → grows_in h size r
grows_more (Some m) h k a b size i j s g = (omega (arith, g.0), omega (arith, g.1))
grows_more None h k a b size i j s g = tt

module _ (word : List ℕ) (colon : ℕ) {h : Held} {text numbers : ℕ} (r : Room h (length word) text numbers) where
  -- there is room for what stands in front of it
  pub room_front : Room h (length (take colon word)) text numbers
  room_front =
      let l : length (take colon word) ≤ length word = rw length-take (omega arith) in
      record { few = omega (arith, r.few); texts = omega (arith, r.texts); lists = omega (arith, r.lists) }

  -- and then for what stands behind it
  pub room_back : {k : Held} → colon < length word → (k.units ≤ h.units + length (take colon word)) × (k.count ≤ h.count + length (take colon word) + 1)
      → Room k (length (take (length word - (colon + 1)) (drop (colon + 1) word))) text numbers
  room_back l g =
      let a : length (take colon word) ≡ colon = length-take-le colon word (omega arith) in
      let b : length (take (length word - (colon + 1)) (drop (colon + 1) word)) ≡ length word - (colon + 1) = rw (part_is (colon + 1) word) (length-drop (colon + 1) word) in
      record { few = omega (arith, r.few, g.0); texts = omega (arith, r.texts, g.0); lists = omega (arith, r.lists, g.1) }

module _ (front back : Field) (word : List ℕ) (flat : Flat) {colon : ℕ} {h : Held} {text numbers : List ℕ} (e : colon ≡ colon_in word) where
  -- no colon
  pub no_pair : {size : ℕ} → length word ≤ colon → Grew (shape_on (Some (Shape.Two front back)) flat word) size h None text numbers
  unfolding shape_on
  no_pair l = record { says = rw (← e, le-ltb colon (length word) l); within = tt }

  -- nothing in front of it
  pub ill_front : {s size : ℕ} {text' numbers' : List ℕ} → colon < length word → Grew (field_on front flat (take colon word)) s h None text' numbers'
      → Grew (shape_on (Some (Shape.Two front back)) flat word) size h None text numbers
  unfolding shape_on
  ill_front l g = record { says = rw (← e, lt-ltb colon (length word) l, ← g.says); within = tt }

  -- something, and what is behind it
  pub pair_grew : {k : Held} {r : Option Held} {text₁ numbers₁ : List ℕ} → colon < length word
      → Grew (field_on front flat (take colon word)) (length (take colon word)) h (Some k) text₁ numbers₁
      → Grew (field_on back (held_in k text₁ numbers₁) (take (length word - (colon + 1)) (drop (colon + 1) word))) (length (take (length word - (colon + 1)) (drop (colon + 1) word))) k r text numbers
      → Grew (shape_on (Some (Shape.Two front back)) flat word) (length word) h r text numbers
  unfolding shape_on
  pair_grew {k} {r} l g f =
      let a : length (take colon word) ≡ colon = length-take-le colon word (omega arith) in
      let b : length (take (length word - (colon + 1)) (drop (colon + 1) word)) ≡ length word - (colon + 1) = rw (part_is (colon + 1) word) (length-drop (colon + 1) word) in
      record {
        says = rw (← e, lt-ltb colon (length word) l, ← g.says, ← part_is (colon + 1) word) f.says;
        within = grows_more r h k colon (length word - (colon + 1)) (length word) (rw a at g.within.0) (rw a at g.within.1) (omega arith) (rw b at f.within);
      }

-- no letter stands for nothing
pub no_shape : (letters : List ℕ) (i : ℕ) → length letters ≡ 0 → None ≡ shape_at letters i
unfolding shape_at
no_shape [] i e = refl
no_shape (x ∷ letters) i e = absurd (omega arith)
