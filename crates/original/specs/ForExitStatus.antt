-- `ExitStatus` has the text and the signed code of the rules. Assumes nothing.
-- The one hypothesis is that a status is a `u32`, which it is in the Rust by its type: "a number below 4,294,967,296".
use Prim.Native.Nat.{ℕ, zero, suc, ◌+◌, ◌-◌, ◌*◌, ◌/◌, ◌%◌, ◌<◌, ◌≤◌}
use Rattle.std.proofs.Common.{arith, ltb-true, ltb-false, lt-ltb, ne_eqb, ap, ◌∙◌}
use Rattle.std.specs.Prelude.{◌≡◌, Bool, length, pos, ◌-ℤ◌}
use Rattle.std.proofs.Math.Path.{refl}
use Rattle.std.proofs.Math.Bool.{true, false}
use mathlib.Core.List.{List, [], ◌∷◌, ◌++◌, append_assoc, append-nil}
use Rattle.std.proofs.Math.Option.{some}
use Rattle.std.proofs.Math.Dec.{ltb}
use Rattle.std.proofs.Math.IntN.{+ℤ_idr}
use Rattle.rules.specs.Choice.{pick}
use Rattle.rules.specs.Unit.{units}
use Rattle.rules.specs.Outcome.{done, refuse}
use Rattle.rules.specs.Status.{glyph, digits, high_bit, status_front, status_text, signed_code, status_outcome}
use Rattle.original.specs.Language.{as_i32, and_high_bit}
use Rattle.original.specs.Shims.{digit, formatted}
use Rattle.original.specs.ExitStatus.{exit_code, exit_display}
use Rattle.original.specs.Domain.{gives, port_says, in_domain}

-- ---- the signed code

low_code : (n : ℕ) → n < high_bit → as_i32 n ≡ pos n
low_code n h =
    let e : n % 2147483648 ≡ n = omega arith in
    let e' : n / 2147483648 * 2147483648 ≡ 0 = omega arith in
    rw (e, e') (+ℤ_idr (pos n))

high_code : (n : ℕ) → high_bit ≤ n → n < 4294967296 → as_i32 n ≡ pos n -ℤ pos 4294967296
high_code n h g =
    let e : n / 2147483648 * 2147483648 ≡ 2147483648 = omega arith in
    let d : 2147483648 - suc (n % 2147483648) ≡ 4294967296 - suc n = omega arith in
    rw (e, lt-ltb (n % 2147483648) 2147483648 (omega arith), lt-ltb n 4294967296 g, d)

-- The code of every `u32` is the signed code.
pub exit_code_same : (status : ℕ) → status < 4294967296 → exit_code status ≡ some (signed_code status)
unfolding exit_code signed_code
exit_code_same status h = go (ltb status high_bit) refl
  where
    go : (b : Bool) → ltb status high_bit ≡ b → exit_code status ≡ some (pick b (pos status) (pos status -ℤ pos 4294967296))
    go true e = ap some (low_code status (ltb-true status high_bit e))
    go false e = ap some (high_code status (ltb-false status high_bit e) h)

-- ---- the digits

digit_same : (d : ℕ) → digit d ≡ glyph d
digit_same d = go (ltb d 10) refl
  where
    go : (b : Bool) → ltb d 10 ≡ b → pick b (48 + d) (97 + (d - 10)) ≡ pick b (48 + d) (87 + d)
    go true e = refl
    go false e = omega (arith, ltb-false d 10 e)

-- the least number that has more digits than fuel + 1
unfoldable pub past : ℕ → ℕ → ℕ
past base zero = base
past base (suc fuel) = base * past base fuel

-- what division by a base does
record Base (base : ℕ) : Type 0 where
  none_left : (n : ℕ) → n < base → n / base ≡ 0
  is_rest : (n : ℕ) → n < base → n % base ≡ n
  some_left : (n : ℕ) → base ≤ n → n / base ≡ 0 → ⊥
  falls : (n most : ℕ) → n < base * most → n / base < most

by_ten : Base 10
by_ten = record { none_left = λ n h. omega arith; is_rest = λ n h. omega arith; some_left = λ n h e. omega arith; falls = λ n most h. omega arith }

by_sixteen : Base 16
by_sixteen = record { none_left = λ n h. omega arith; is_rest = λ n h. omega arith; some_left = λ n h e. omega arith; falls = λ n most h. omega arith }

module _ (base : ℕ) (b : Base base) where
  last_digit : (more n : ℕ) (found : List ℕ) → n < base → formatted base more n found ≡ glyph (n % base) ∷ found
  unfolding formatted
  last_digit zero n found h = rw (digit_same (n % base))
  last_digit (suc more) n found h = rw (b.none_left n h, digit_same (n % base))

  -- Both find the same digits, one writes them in front of those found, the other behind.
  -- How many there may be does not matter where there is no digit more.
  same_digits : (fuel more n : ℕ) (found : List ℕ) → fuel ≤ more → n < past base fuel → formatted base more n found ≡ digits base fuel n ++ found
  unfolding past digits formatted
  same_digits zero more n found l h = last_digit more n found h
  same_digits (suc fuel) zero n found l h = absurd (omega arith)
  same_digits (suc fuel) (suc more) n found l h =
      go (same_digits fuel more (n / base) (glyph (n % base) ∷ found) (omega arith) (b.falls n (past base fuel) h)) (ltb n base) refl
    where
      go : formatted base more (n / base) (glyph (n % base) ∷ found) ≡ digits base fuel (n / base) ++ glyph (n % base) ∷ found
          → (t : Bool) → ltb n base ≡ t
          → formatted base (suc more) n found ≡ pick t (glyph n ∷ []) (digits base fuel (n / base) ++ glyph (n % base) ∷ []) ++ found
      go ih true e = last_digit (suc more) n found (ltb-true n base e) ∙ rw (b.is_rest n (ltb-true n base e))
      go ih false e =
          rw (ne_eqb (n / base) 0 (b.some_left n (ltb-false n base e)), digit_same (n % base), append_assoc (digits base fuel (n / base))) ih

-- ---- the text

low_bit : (n : ℕ) → n < high_bit → and_high_bit n ≡ 0
low_bit n h = omega arith

high_bit_lem : (n : ℕ) → high_bit ≤ n → n < 4294967296 → and_high_bit n ≡ 2147483648
high_bit_lem n h g = omega arith

-- The text of every `u32` is the status text.
pub exit_display_is : (status : ℕ) → status < 4294967296 → exit_display status ≡ status_text status
unfolding exit_display status_text past
exit_display_is status h = go (ltb status high_bit) refl
  where
    go : (b : Bool) → ltb status high_bit ≡ b → exit_display status ≡ status_front ++ pick b (digits 10 9 status) (units "0x" ++ digits 16 7 status)
    go true e =
        rw (low_bit status (ltb-true status high_bit e))
        (ap (λ text. status_front ++ text) (same_digits 10 by_ten 9 31 status [] (omega arith) (omega arith) ∙ append-nil _))
    go false e =
        rw (high_bit_lem status (ltb-false status high_bit e) h)
        (ap (λ text. status_front ++ (units "0x" ++ text)) (same_digits 16 by_sixteen 7 31 status [] (omega arith) (omega arith) ∙ append-nil _))

-- On the oracle's domain the Rust and the port say the same.
pub exit_display_same : (status room : ℕ) → status < 4294967296
    → in_domain (status_outcome status room) ≡ true
    → gives (exit_display status) ≡ port_says (status_outcome status room)
unfolding status_outcome
exit_display_same status room u32 h = rw (exit_display_is status u32) (go (ltb room (length (status_text status))) h)
  where
    go : (b : Bool) → in_domain (refuse 4 b (done (status_text status))) ≡ true → gives (status_text status) ≡ port_says (refuse 4 b (done (status_text status)))
    go true h = cc
    go false h = refl
