-- Runs of units that pass a test, at the front and at the end of a list, met one unit after another. Assumes nothing.
use Rattle.std.specs.Prelude.{ℕ, zero, suc, ◌+◌, ◌-◌, ◌≤◌, min, ◌<◌, ◌≡◌, refl, Bool, false, eqb, length, get_or, take}
use Rattle.std.proofs.Common.{zero-le, add-one, ◌∙◌, take-append-drop}
use native.Mathlib.Omega.{arith}
use Rattle.std.proofs.Math.Path.{sym}
use Rattle.std.proofs.Math.Bool.{true}
use mathlib.Core.List.{List, [], ◌∷◌, ◌++◌}
use Rattle.std.proofs.Math.ListN.{drop, drop_of_length-le}
use Rattle.std.proofs.Math.Seq.{drop-cons, drop-drop}
use Rattle.laws.specs.Any.{any_same, part_length, twice}
use Rattle.laws.specs.Choice.{apart}
use Rattle.rules.specs.Record.{part}
use Rattle.laws.specs.Store.{part_is}
use Rattle.rules.specs.Choice.{pick, either, flip, any}

-- how many elements at the front pass the test
unfoldable pub leading : (ℕ → Bool) → List ℕ → ℕ
leading p [] = 0
leading p (x ∷ xs) = pick (p x) (suc (leading p xs)) 0

-- the index of the first element that passes the test, or the length where none does
abbrev pub before : (ℕ → Bool) → List ℕ → ℕ
before p xs = leading (λ x. flip (p x)) xs

-- the unit is x
abbrev pub is_unit : ℕ → ℕ → Bool
is_unit x y = eqb y x

-- the unit is a or b
abbrev pub is_either : ℕ → ℕ → ℕ → Bool
is_either a b x = either (is_unit a x) (is_unit b x)

-- the unit is one of four
abbrev pub is_one_of : ℕ → ℕ → ℕ → ℕ → ℕ → Bool
is_one_of a b c d x = either (is_either a b x) (is_either c d x)

-- how many elements at the end pass the test, where k before them do
unfoldable pub trailing_from : (ℕ → Bool) → ℕ → List ℕ → ℕ
trailing_from p k [] = k
trailing_from p k (x ∷ xs) = trailing_from p (pick (p x) (k + 1) 0) xs

-- ---- the run at the front

-- i elements are passed, and what is left of the run is that of the rest
pub Passed : (ℕ → Bool) → List ℕ → ℕ → Type 0
Passed p xs i = (i ≤ length xs) × (leading p xs ≡ i + leading p (drop i xs))

module _ (p : ℕ → Bool) (xs : List ℕ) where
  -- at the start none are passed
  pub none_passed : Passed p xs 0
  unfolding Passed
  none_passed = (zero-le, omega arith)

  -- no more are passed than there are
  pub passed_in : {i : ℕ} → Passed p xs i → i ≤ length xs
  unfolding Passed
  passed_in h = h.0

  -- one that passes
  pub one_more : (i : ℕ) → Passed p xs i → i < length xs → p (get_or xs i 0) ≡ true → Passed p xs (i + 1)
  unfolding Passed leading
  one_more i h l e =
      let s : leading p (drop i xs) ≡ 1 + leading p (drop (i + 1) xs) = rw (add-one, drop-cons xs i 0, e) (omega arith) in
      (omega arith, omega arith)

  -- one that does not: the run ends there
  pub stopped : (i : ℕ) → Passed p xs i → i < length xs → p (get_or xs i 0) ≡ false → i ≡ leading p xs
  unfolding Passed leading
  stopped i h l e =
      let s : leading p (drop i xs) ≡ 0 = rw (drop-cons xs i 0, e) in
      omega arith

  -- the end of the list: the run ends there
  pub all_passed : (i : ℕ) → Passed p xs i → length xs ≤ i → i ≡ leading p xs
  unfolding Passed leading
  all_passed i h l =
      let s : leading p (drop i xs) ≡ 0 = rw drop_of_length-le in
      omega arith

-- a run is no longer than the list
pub leading_in : (p : ℕ → Bool) (xs : List ℕ) → leading p xs ≤ length xs
unfolding leading
leading_in p [] = zero-le
leading_in p (x ∷ xs) = go (p x) (leading_in p xs)
  where
    go : (b : Bool) → leading p xs ≤ length xs → pick b (suc (leading p xs)) 0 ≤ suc (length xs)
    go true h = omega arith
    go false h = omega arith

-- ---- many at once

module _ (p : ℕ → Bool) where
  -- a run goes on behind elements of which none passes the other test
  leading_on : (us vs : List ℕ) → any p us ≡ false → before p (us ++ vs) ≡ length us + before p vs
  unfolding leading
  leading_on [] vs h = omega arith
  leading_on (x ∷ us) vs h = let (e, g) = apart true (p x) (any p us) h in rw e (omega (arith, leading_on us vs g))

  -- elements of which none passes the other test are passed at once
  pub many_more : (xs : List ℕ) (i n : ℕ) → Passed (λ x. flip (p x)) xs i → i + n ≤ length xs → any p (part xs i n) ≡ false → Passed (λ x. flip (p x)) xs (i + n)
  unfolding Passed
  many_more xs i n h l e =
      let c : drop i xs ≡ part xs i n ++ drop (i + n) xs = sym (take-append-drop n (drop i xs)) ∙ rw drop-drop in
      let s : before p (drop i xs) ≡ n + before p (drop (i + n) xs) = rw c (rw (part_length xs i n l) at (leading_on (part xs i n) (drop (i + n) xs) e)) in
      (l, omega (arith, h.1, s))

module _ (p : ℕ → Bool) (xs : List ℕ) where
  -- what is left is the run of the rest, lent as a part
  pub rest_passed : (i : ℕ) {r : ℕ} → Passed p xs i → r ≡ leading p (take (length xs - i) (drop i xs)) → i + r ≡ leading p xs
  unfolding Passed
  rest_passed i h e = omega (arith, h.1, rw part_is at e)

  -- and it ends within the list
  pub rest_within : (i : ℕ) {r : ℕ} → Passed p xs i → r ≡ leading p (take (length xs - i) (drop i xs)) → i + r ≤ length xs
  rest_within i h e = rw (rest_passed i h e) (leading_in p xs)

-- ---- a front of the list

-- the run of a front is that of the list, cut where the front ends
pub leading_front : (p : ℕ → Bool) (n : ℕ) (xs : List ℕ) → leading p (take n xs) ≡ min n (leading p xs)
unfolding leading
leading_front p zero xs = omega arith
leading_front p (suc n) [] = omega arith
leading_front p (suc n) (x ∷ xs) = go (p x) (leading_front p n xs)
  where
    go : (b : Bool) → leading p (take n xs) ≡ min n (leading p xs) → pick b (suc (leading p (take n xs))) 0 ≡ min (suc n) (pick b (suc (leading p xs)) 0)
    go true h = omega arith
    go false h = omega arith

-- a front that all pass is passed
pub front_passed : (p : ℕ → Bool) (n : ℕ) (xs : List ℕ) → n ≤ leading p xs → Passed p xs n
unfolding Passed leading
front_passed p zero xs h = (zero-le, omega arith)
front_passed p (suc n) [] h = absurd (omega arith)
front_passed p (suc n) (x ∷ xs) h = go (p x) h (λ g. front_passed p n xs g)
  where
    go : (b : Bool) → suc n ≤ pick b (suc (leading p xs)) 0 → (n ≤ leading p xs → (n ≤ length xs) × (leading p xs ≡ n + leading p (drop n xs)))
        → (suc n ≤ suc (length xs)) × (pick b (suc (leading p xs)) 0 ≡ suc n + leading p (drop n xs))
    go true g ih = let (l, e) = ih (omega arith) in (omega arith, omega arith)
    go false g ih = absurd (omega arith)

-- tests that agree on every element find runs of one length
pub leading_same : (p q : ℕ → Bool) → ((x : ℕ) → p x ≡ q x) → (xs : List ℕ) → leading p xs ≡ leading q xs
unfolding leading
leading_same p q h [] = refl
leading_same p q h (x ∷ xs) = rw (h x, leading_same p q h xs)

-- two units looked for, each named twice
pub before_two : (a b : ℕ) (xs : List ℕ) → before (is_one_of a b a b) xs ≡ before (is_either a b) xs
before_two a b xs = leading_same _ _ (λ x. rw (twice (is_either a b x))) xs

-- one unit looked for, named twice
pub before_twice : (a : ℕ) (xs : List ℕ) → before (is_either a a) xs ≡ before (is_unit a) xs
before_twice a xs = leading_same _ _ (λ x. rw (twice (is_unit a x))) xs

-- or four times
pub before_one : (a : ℕ) (xs : List ℕ) → before (is_one_of a a a a) xs ≡ before (is_unit a) xs
before_one a xs = before_two a a xs ∙ before_twice a xs

-- and so where it is only asked whether it is there
pub any_twice : (a : ℕ) (xs : List ℕ) → any (is_either a a) xs ≡ any (is_unit a) xs
any_twice a xs = any_same (is_either a a) (is_unit a) (λ x. twice (is_unit a x)) xs

-- ---- the run at the end

-- the run at the end is no longer than the list
pub trailing_in : (p : ℕ → Bool) (k : ℕ) (xs : List ℕ) → trailing_from p k xs ≤ k + length xs
unfolding trailing_from
trailing_in p k [] = omega arith
trailing_in p k (x ∷ xs) = go (p x) (trailing_in p (k + 1) xs) (trailing_in p 0 xs)
  where
    go : (b : Bool) → trailing_from p (k + 1) xs ≤ k + 1 + length xs → trailing_from p 0 xs ≤ 0 + length xs
        → trailing_from p (pick b (k + 1) 0) xs ≤ k + suc (length xs)
    go true h g = omega arith
    go false h g = omega arith
