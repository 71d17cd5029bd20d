-- Decimal numbers as they are typed, and signed numbers as they are shown. Assumes nothing.
use Rattle.std.specs.Prelude.{ℕ, ◌+◌, ◌*◌, ◌-◌, ◌≡◌, refl, ℤ, pos, negsuc, Bool, true, false, List, [], ◌∷◌, ◌++◌, ltb, Option, None, Some}
use Rattle.std.specs.Fmt.{decimal, signed_decimal}
use Rattle.std.proofs.Common.{add-one, ap, sym}
use Rattle.rules.specs.Choice.{pick, either, flip, any, is_empty}
use Rattle.rules.specs.Unit.{is_digit}

-- the number that digits stand for behind those that stand for n
unfoldable pub decimal_from : ℕ → List ℕ → ℕ
decimal_from n [] = n
decimal_from n (x ∷ more) = decimal_from (n * 10 + (x - 48)) more

-- the largest number of 32 bits
abbrev pub largest : ℕ
largest = 4294967295

-- a byte is no digit
abbrev pub is_no_digit : ℕ → Bool
is_no_digit x = flip (is_digit x)

-- the word is no number of 32 bits: it is empty, holds something else than digits, or stands for more
unfoldable pub is_no_number : List ℕ → Bool
is_no_number word = either (is_empty word) (either (any is_no_digit word) (ltb largest (decimal_from 0 word)))

-- the number that a word stands for; digits 0 in front change nothing
unfoldable pub number_of : List ℕ → Option ℕ
unfolding is_no_number decimal_from
number_of word = pick (is_no_number word) None (Some (decimal_from 0 word))

-- a signed number taken apart
pub record Signed : Type 0 where
  pub negative : Bool
  pub size : ℕ

-- a number by its sign and its size
unfoldable pub signed_of : ℤ → Signed
signed_of (pos n) = record { negative = false; size = n }
signed_of (negsuc n) = record { negative = true; size = n + 1 }

-- what a signed number is shown as: its sign, and its size in decimal
pub signed_shown : (code : ℤ) → signed_decimal code ≡ pick (signed_of code).negative (45 ∷ []) [] ++ decimal (signed_of code).size
unfolding signed_of
signed_shown (pos n) = refl
signed_shown (negsuc n) = ap (λ (k : ℕ). 45 ∷ decimal k) (sym (add-one n))
