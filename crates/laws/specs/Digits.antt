-- The digits of a number, and how many there are. Assumes nothing.
use Rattle.std.specs.Prelude.{ℕ, zero, suc, ◌/◌, ◌%◌, ◌^◌, ◌≤◌, ◌<◌, ◌≡◌, Bool, true, false, List, [], ◌∷◌, ◌++◌, ltb, length}
use Rattle.std.proofs.Common.{div-lt_iff_lt-mul, mod-eq_of_lt, pow-suc, one-mul, arith, length-append, lt-ltb, le-ltb}
use Rattle.std.proofs.Math.Nat.{pow-zero, pow-le-pow_left}
use Rattle.rules.specs.Choice.{pick}
use Rattle.rules.specs.Status.{glyph, digits}
use Rattle.laws.specs.Placed.{Placed, both_placed}

-- what is left of a number without its last digit
pub fewer : (base fuel n : ℕ) → 1 < base → n < base ^ suc (suc fuel) → n / base < base ^ suc fuel
fewer base fuel n b h = let z : 0 < base = omega arith in (div-lt_iff_lt-mul z).1 (rw (pow-suc base (suc fuel)) at h)

-- a number of one digit is below the base
pub one_place : (base n : ℕ) → n < base ^ 1 → n < base
one_place base n h = rw (pow-suc base 0, pow-zero, one-mul) at h

-- a number below the base is one digit
pub one_digit : (base fuel n : ℕ) → n < base → digits base fuel n ≡ glyph n ∷ []
unfolding digits
one_digit base zero n h = rw (mod-eq_of_lt h)
one_digit base (suc fuel) n h = rw (lt-ltb n base h)

-- there are at most as many digits as may be
pub digits_short : (base fuel n : ℕ) → length (digits base fuel n) ≤ suc fuel
unfolding digits
digits_short base zero n = omega arith
digits_short base (suc fuel) n = go (ltb n base) (digits_short base fuel (n / base))
  where
    go : (b : Bool) → length (digits base fuel (n / base)) ≤ suc fuel
        → length (pick b (glyph n ∷ []) (digits base fuel (n / base) ++ glyph (n % base) ∷ [])) ≤ suc (suc fuel)
    go true h = omega arith
    go false h = rw length-append (omega arith)

-- a number of 64 bits has at most 64 digits in any base
pub wide : (base n : ℕ) → 1 < base → n < 2 ^ 64 → n < base ^ 64
wide base n b h = let p : 2 ^ 64 ≤ base ^ 64 = pow-le-pow_left b 64 in omega arith

-- a number's digits, where all in front of the last are placed and then the last
pub last_placed : (base n : ℕ) {at m r : ℕ} {before middle after : List ℕ} → 1 < base → base ≤ n
    → ((fuel : ℕ) → n / base < base ^ suc fuel → Placed (digits base fuel (n / base)) at m before middle)
    → Placed (glyph (n % base) ∷ []) m r middle after
    → (fuel : ℕ) → n < base ^ suc fuel → Placed (digits base fuel n) at r before after
unfolding digits
last_placed base n b h p q zero l = absurd (omega (arith, one_place base n l))
last_placed base n b h p q (suc fuel) l = rw (le-ltb n base h) (both_placed (p fuel (fewer base fuel n b l)) q)
