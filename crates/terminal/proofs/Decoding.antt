-- A text decoded character by character. Assumes nothing.
use Rattle.std.proofs.Common.{ℕ, zero, suc, ◌+◌, ◌*◌, ◌-◌, ◌≤◌, ◌≡◌, refl, ap, ◌∙◌, zero-add, arith, Bool, true, false, None, Some, List, [], ◌∷◌, length, take, drop, length-drop, ltb}
use Rattle.std.proofs.Math.Seq.{drop-drop}
use Rattle.rules.specs.Choice.{pick}
use Rattle.laws.specs.Store.{part_is}
use Rattle.laws.specs.Placed.{Left, Placed, less_left}
use Rattle.terminal.specs.declared.utf8.Scalar.{Scalar}
use Rattle.terminal.specs.Utf8.{scalar_of, units_of, scalars_from, scalars, bytes_of, text_of, good_bytes, good_units, Decoded}
use Rattle.terminal.proofs.Sequence.{Fine, scalar_fine}

-- ---- characters one after another

-- bytes of a character before are passed over
passed_over : (k : ℕ) (xs : List ℕ) → scalars_from k xs ≡ scalars (drop k xs)
unfolding scalars_from
passed_over zero xs = refl
passed_over (suc k) [] = refl
passed_over (suc k) (x ∷ xs) = passed_over k xs

-- no character at the front
none_next : (xs : List ℕ) → scalar_of xs ≡ None → scalars xs ≡ []
unfolding scalars_from
none_next [] h = refl
none_next (x ∷ xs) h = rw h refl

-- a character at the front, and those behind it
one_next : (xs : List ℕ) (s : Scalar) → scalar_of xs ≡ Some s → scalars xs ≡ s ∷ scalars (drop s.bytes xs)
unfolding scalars_from
one_next [] s h = absurd (omega (arith, (scalar_fine [] s h).some, (scalar_fine [] s h).within))
one_next (x ∷ xs) s h =
    let f = scalar_fine (x ∷ xs) s h in
    let e : s.bytes ≡ suc (s.bytes - 1) = omega (arith, f.some) in
    let d : drop s.bytes (x ∷ xs) ≡ drop (s.bytes - 1) xs = ap (λ (n : ℕ). drop n (x ∷ xs)) e in
    rw (h, d, passed_over (s.bytes - 1) xs) refl

-- ---- the loop

one_or_two : (b : Bool) (x y z : ℕ) → length (pick b (x ∷ []) (y ∷ z ∷ [])) ≤ 2
one_or_two true x y z = omega arith
one_or_two false x y z = omega arith

-- a character has one unit or two
few_units : (value : ℕ) → length (units_of value) ≤ 2
unfolding units_of
few_units value = one_or_two (ltb value 65536) _ _ _

-- what the character is that stands next
pub next_fine : (bytes : List ℕ) (i : ℕ) {next : Scalar} → scalar_of (take (length bytes - i) (drop i bytes)) ≡ Some next → Fine (drop i bytes) next
next_fine bytes i {next} e = scalar_fine (drop i bytes) next (rw part_is at e)

-- the same, counted from the front
pub next_in : (bytes : List ℕ) (i : ℕ) {next : Scalar} → i ≤ length bytes → scalar_of (take (length bytes - i) (drop i bytes)) ≡ Some next → i + next.bytes ≤ length bytes
next_in bytes i w e = let f = next_fine bytes i e in omega (arith, w, f.some, rw length-drop at f.within)

-- i bytes are read and gave units up to `to`, and what is left to read would complete both
pub record Reading (bytes before out : List ℕ) (i to : ℕ) : Type 0 where
  pub within : i ≤ length bytes
  pub few : to ≤ 2 * i
  pub reads : i + bytes_of (scalars (drop i bytes)) ≡ good_bytes bytes
  pub still : Left (good_units bytes) 0 before (text_of (scalars (drop i bytes))) to out

module _ {bytes before : List ℕ} where
  -- nothing is read yet
  pub none_read : Reading bytes before before 0 0
  unfolding good_bytes good_units
  none_read = record { within = omega arith; few = omega arith; reads = zero-add _; still = record { counts = refl; stores = refl } }

  -- one character more
  pub one_read : {out out' : List ℕ} {i to to' : ℕ} {next : Scalar} → Reading bytes before out i to
      → scalar_of (take (length bytes - i) (drop i bytes)) ≡ Some next → Placed (units_of next.value) to to' out out'
      → Reading bytes before out' (i + next.bytes) to'
  unfolding bytes_of text_of
  one_read {i = i} {next = next} r e p =
      let e' : scalar_of (drop i bytes) ≡ Some next = rw part_is at e in
      let f = next_fine bytes i e in
      let s : scalars (drop i bytes) ≡ next ∷ scalars (drop (i + next.bytes) bytes) = one_next (drop i bytes) next e' ∙ rw drop-drop in
      record {
        within = next_in bytes i r.within e;
        few = omega (arith, f.some, p.ends, few_units next.value, r.few);
        reads = omega (arith, rw s at r.reads);
        still = less_left (rw s at r.still) p;
      }

  -- no character stands next
  pub over : {out : List ℕ} {i to : ℕ} → Reading bytes before out i to → scalar_of (take (length bytes - i) (drop i bytes)) ≡ None
      → Decoded bytes (record { bytes = i; units = to }) before out
  unfolding bytes_of text_of
  over {i = i} r h =
      let e : scalars (drop i bytes) ≡ [] = none_next (drop i bytes) (rw part_is at h) in
      let s = rw e at r.still in
      record { reads = omega (arith, rw e at r.reads); counts = omega (arith, s.counts); stores = s.stores }
