-- The digits that the rules write are the number's: in their base they stand for the number, and none in front could be left out. Assumes nothing.
use Rattle.std.specs.Prelude.{ℕ, zero, suc, ◌+◌, ◌*◌, ◌-◌, ◌/◌, ◌%◌, ◌^◌, ◌≤◌, ◌<◌, ◌≡◌, refl, Bool, true, false, List, [], ◌∷◌, ◌++◌, ltb, eqb, length, get_or}
use Rattle.std.proofs.Common.{mod-lt, mod-eq_of_lt, div-add-mod', le-div_iff_mul-le, one-mul, arith, sym, ap, ◌∙◌, length-append, ltb-true, ltb-false, lt-ltb, le-ltb, eq-eqb}
use Rattle.std.proofs.Math.ListN.{get_or-append}
use Rattle.rules.specs.Choice.{pick, either, both, flip, any}
use Rattle.rules.specs.Status.{glyph, digits}
use Rattle.laws.specs.Digits.{fewer, one_place}

-- ---- what units stand for

-- the digit that a unit is read as
abbrev pub digit_of : ℕ → ℕ
digit_of unit = pick (ltb unit 58) (unit - 48) (unit - 87)

-- the unit is that of a digit below the base
abbrev pub is_digit_in : ℕ → ℕ → Bool
is_digit_in base unit = both (eqb unit (glyph (digit_of unit))) (ltb (digit_of unit) base)

-- the number that units stand for behind those that stand for n
unfoldable pub value_from : ℕ → ℕ → List ℕ → ℕ
value_from base n [] = n
value_from base n (unit ∷ more) = value_from base (n * base + digit_of unit) more

-- the number that units stand for in a base
abbrev pub value_of : ℕ → List ℕ → ℕ
value_of base units = value_from base 0 units

-- the units are the number's digits in the base: each is a digit, together they stand for the number, and the first is 0 for the number 0 alone
pub record Numeral (base n : ℕ) (units : List ℕ) : Type 0 where
  pub some : 0 < length units
  pub proper : any (λ unit. flip (is_digit_in base unit)) units ≡ false
  pub value : value_of base units ≡ n
  pub front : get_or units 0 0 ≡ glyph 0 → n ≡ 0

-- ---- one digit

-- a digit is read as what it was written for
digit_of_glyph : (d : ℕ) → digit_of (glyph d) ≡ d
digit_of_glyph d = go (ltb d 10) refl
  where
    go : (b : Bool) → ltb d 10 ≡ b → digit_of (pick b (48 + d) (87 + d)) ≡ d
    go true e = rw (lt-ltb (48 + d) 58 (omega (arith, ltb-true d 10 e))) (omega arith)
    go false e = rw (le-ltb (87 + d) 58 (omega (arith, ltb-false d 10 e))) (omega arith)

-- a digit below the base is one in it
glyph_proper : {base d : ℕ} → d < base → is_digit_in base (glyph d) ≡ true
glyph_proper {base} {d} h = rw (digit_of_glyph d, eq-eqb (glyph d) (glyph d) refl, lt-ltb d base h)

-- the digit 0 is that of 0 alone
glyph_zero : (d : ℕ) → glyph d ≡ glyph 0 → d ≡ 0
glyph_zero d e = sym (digit_of_glyph d) ∙ ap digit_of e

one_digit : (base n : ℕ) → n < base → Numeral base n (glyph n ∷ [])
unfolding value_from
one_digit base n h =
    record {
      some = omega arith;
      proper = rw (glyph_proper h);
      value = rw digit_of_glyph (omega arith);
      front = glyph_zero n;
    }

-- ---- one digit more

value_snoc : (base n : ℕ) (units : List ℕ) (unit : ℕ) → value_from base n (units ++ unit ∷ []) ≡ value_from base n units * base + digit_of unit
unfolding value_from
value_snoc base n [] unit = refl
value_snoc base n (u ∷ units) unit = value_snoc base (n * base + digit_of u) units unit

none_snoc : (test : ℕ → Bool) (units : List ℕ) (unit : ℕ) → any test units ≡ false → test unit ≡ false → any test (units ++ unit ∷ []) ≡ false
none_snoc test [] unit e f = rw f
none_snoc test (u ∷ units) unit e f = go (test u) e (λ h. none_snoc test units unit h f)
  where
    go : (b : Bool) → either b (any test units) ≡ false → (any test units ≡ false → any test (units ++ unit ∷ []) ≡ false)
        → either b (any test (units ++ unit ∷ [])) ≡ false
    go false e more = more e
    go true e more = e

more_digits : {base n : ℕ} (units : List ℕ) → 1 < base → base ≤ n → Numeral base (n / base) units → Numeral base n (units ++ glyph (n % base) ∷ [])
more_digits {base} {n} units b h higher =
    let z : 0 < base = omega arith in
    let l : n % base < base = mod-lt n z in
    let p : 1 ≤ n / base = (le-div_iff_mul-le z).1 (rw one-mul h) in
    record {
      some = rw length-append (omega arith);
      proper = none_snoc (λ unit. flip (is_digit_in base unit)) units (glyph (n % base)) higher.proper (rw (glyph_proper l));
      value = rw (value_snoc base 0 units (glyph (n % base)), higher.value, digit_of_glyph) (div-add-mod' n base);
      front = λ e. absurd (omega (arith, higher.front (sym (get_or-append units (glyph (n % base) ∷ []) 0 0 higher.some) ∙ e)));
    }

-- ---- the digits that the rules write

-- where there are digits enough, they are the number's
pub numeral : (base fuel n : ℕ) → 1 < base → n < base ^ suc fuel → Numeral base n (digits base fuel n)
unfolding digits
numeral base zero n b h =
    let l : n < base = one_place base n h in
    rw (mod-eq_of_lt l) (one_digit base n l)
numeral base (suc fuel) n b h = go (ltb n base) refl (numeral base fuel (n / base) b (fewer base fuel n b h))
  where
    go : (t : Bool) → ltb n base ≡ t → Numeral base (n / base) (digits base fuel (n / base))
        → Numeral base n (pick t (glyph n ∷ []) (digits base fuel (n / base) ++ glyph (n % base) ∷ []))
    go true e higher = one_digit base n (ltb-true n base e)
    go false e higher = more_digits (digits base fuel (n / base)) b (ltb-false n base e) higher

-- "a number below 4,294,967,296", in decimal
pub decimal : (status : ℕ) → status < 2 ^ 32 → Numeral 10 status (digits 10 9 status)
decimal status h = numeral 10 9 status (omega arith) (omega arith)

-- "a number below 4,294,967,296", in hexadecimal
pub hexadecimal : (status : ℕ) → status < 2 ^ 32 → Numeral 16 status (digits 16 7 status)
hexadecimal status h = numeral 16 7 status (omega arith) (omega arith)
