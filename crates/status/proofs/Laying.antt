-- Digits laid into ten places, from the last to the first. Assumes nothing.
use Prim.Native.Nat.{ℕ, zero, suc, ◌-◌, ◌/◌, ◌%◌, ◌^◌, ◌≤◌, ◌<◌}
use native.Mathlib.Nat.{mod-eq_of_lt, pow-le-pow_left, pow-zero, pow-suc, one-mul}
use native.Mathlib.Omega.{arith}
use mathlib.Core.Path.{◌≡◌, refl, sym, ap, ◌∙◌}
use mathlib.Core.List.{List, [], ◌∷◌, ◌++◌, append_assoc, append-nil}
use lib.ListN.{length, take, drop, set, length-set, drop_of_length-le}
use lib.Seq.{drop-cons, get_or-set_same, drop-set-lt, take-set-le, take-take}
use borrow.Author.Tests.{lt-ltb, le-ltb}
use Rattle.rules.specs.Status.{glyph, digits}
use Rattle.laws.specs.Digits.{fewer}
use Rattle.status.specs.Text.{DigitsLaid}

-- ---- the digits of a number

one_place : (base n : ℕ) → n < base ^ 1 → n < base
one_place base n h = rw (pow-suc base 0, pow-zero, one-mul) at h

-- a number below the base is one digit
digits_one : (base fuel n : ℕ) → n < base → digits base fuel n ≡ glyph n ∷ []
unfolding digits
digits_one base zero n h = rw (mod-eq_of_lt h)
digits_one base (suc fuel) n h = rw (lt-ltb n base h)

-- from the base on, the last digit and those before it
digits_last : (base fuel n : ℕ) → base ≤ n → digits base (suc fuel) n ≡ digits base fuel (n / base) ++ glyph (n % base) ∷ []
unfolding digits
digits_last base fuel n h = rw (le-ltb n base h)

-- more digits than enough are the same digits
pub enough : (base fuel n : ℕ) → 1 < base → n < base ^ suc fuel → digits base (suc fuel) n ≡ digits base fuel n
unfolding digits
enough base zero n b h = digits_one base 1 n (one_place base n h) ∙ sym (digits_one base 0 n (one_place base n h))
enough base (suc fuel) n b h = rw (enough base fuel (n / base) b (fewer base fuel n b h))

-- ---- the places

-- what is behind a place after a store there
stored : (places : List ℕ) (at unit : ℕ) → at < length places → drop at (set places at unit) ≡ unit ∷ drop (suc at) places
stored places at unit h =
    let l : at < length (set places at unit) = rw length-set h in
    let s : at < suc at = omega arith in
    drop-cons (set places at unit) at 0 l ∙ rw (get_or-set_same places at unit 0 h, drop-set-lt (suc at) places at unit s)

-- what is before a place after a store just before it
kept_before : (places before : List ℕ) (at unit : ℕ) → take at places ≡ take at before → take (at - 1) (set places (at - 1) unit) ≡ take (at - 1) before
kept_before places before at unit h =
    let l : at - 1 ≤ at = omega arith in
    let shorter : take (at - 1) places ≡ take (at - 1) before = sym (take-take (at - 1) at places l) ∙ ap (take (at - 1)) h ∙ take-take (at - 1) at before l in
    take-set-le (at - 1) places (at - 1) unit (omega arith) ∙ shorter

-- behind `at` lie the last digits of the number, and those of what is left go before them
pub record Laying (base number left at : ℕ) (before places : List ℕ) : Type 0 where
  pub fuel : ℕ
  pub next : at ≡ suc fuel
  pub within : at ≤ 10
  pub ten : length places ≡ 10
  pub keeps : take at places ≡ take at before
  pub small : left < base ^ suc fuel
  pub still : digits base fuel left ++ drop at places ≡ digits base 9 number

-- at the start none are laid
pub none_laid : (base number : ℕ) (places : List ℕ) → 10 ≤ base → number < 2 ^ 32 → length places ≡ 10 → Laying base number number 10 places places
none_laid base number places b h t =
    let p : 10 ^ 10 ≤ base ^ 10 = pow-le-pow_left b 10 in
    let e : drop 10 places ≡ [] = drop_of_length-le places {i = 10} (omega arith) in
    record { fuel = 9; next = refl; within = omega arith; ten = t; keeps = refl; small = omega arith; still = rw (e, append-nil) }

-- one digit more
pub one_laid : {base number left at : ℕ} {before places : List ℕ} → 1 < base → base ≤ left → Laying base number left at before places
    → Laying base number (left / base) (at - 1) before (set places (at - 1) (glyph (left % base)))
one_laid {base} {number} {left} {at} {before} {places} b h l = go l.fuel l.next l.small l.still
  where
    go : (fuel : ℕ) → at ≡ suc fuel → left < base ^ suc fuel → digits base fuel left ++ drop at places ≡ digits base 9 number
        → Laying base number (left / base) (at - 1) before (set places (at - 1) (glyph (left % base)))
    go zero n s e = absurd (omega (arith, one_place base left s))
    go (suc fuel) n s e =
        let p : at - 1 ≡ suc fuel = omega arith in
        let m : suc fuel < length places = omega (arith, l.ten, l.within) in
        record {
          fuel = fuel;
          next = p;
          within = omega (arith, l.within);
          ten = length-set places (at - 1) (glyph (left % base)) ∙ l.ten;
          keeps = kept_before places before at (glyph (left % base)) l.keeps;
          small = fewer base fuel left b s;
          still = rw (p, stored places (suc fuel) (glyph (left % base)) m, ← n) (sym (append_assoc (digits base fuel (left / base)) (glyph (left % base) ∷ []) (drop at places)) ∙ (rw (digits_last base fuel left h) at e));
        }

-- the first digit ends it
pub all_laid : {base number left at : ℕ} {before places : List ℕ} → left < base → Laying base number left at before places
    → DigitsLaid base number (at - 1) before (set places (at - 1) (glyph left))
all_laid {base} {number} {left} {at} {before} {places} h l =
    let p : at - 1 ≡ l.fuel = omega (arith, l.next) in
    let m : l.fuel < length places = omega (arith, l.ten, l.within, l.next) in
    record {
      within = omega (arith, l.within, l.next);
      ten = length-set places (at - 1) (glyph left) ∙ l.ten;
      keeps = kept_before places before at (glyph left) l.keeps;
      holds = rw (p, stored places l.fuel (glyph left) m, ← l.next) (rw (digits_one base l.fuel left h) at l.still);
    }
