-- The decimal numbers of a line: "decimal without leading zeros". Assumes nothing.
use Rattle.std.specs.Prelude.{ℕ, ◌+◌, ◌-◌, ◌*◌, ◌≤◌, ◌≡◌, Bool, true, false, List, [], ◌∷◌, eqb, leb, Option, Some, None, IfSome}
use Rattle.rules.specs.Choice.{pick, both, flip}
use Rattle.rules.specs.Unit.{is_digit}

-- the byte is a digit, and the number with it is at most `most`
unfoldable pub digit_fits : ℕ → ℕ → ℕ → Bool
digit_fits most number x = both (is_digit x) (leb (number * 10 + (x - 48)) most)

-- the number with a digit behind it
unfoldable pub longer : ℕ → ℕ → ℕ → Option ℕ
unfolding digit_fits
longer most number x = pick (digit_fits most number x) (Some (number * 10 + (x - 48))) None

-- the number that digits are behind those of the number given
unfoldable pub number_from : ℕ → ℕ → List ℕ → Option ℕ
unfolding digit_fits
number_from most number [] = Some number
number_from most number (x ∷ xs) = let further = number_from most (number * 10 + (x - 48)) xs in pick (digit_fits most number x) further None

-- "without leading zeros": a word that is not empty, in which a 0 in front stands alone
unfoldable pub is_numeral : List ℕ → Bool
is_numeral [] = false
is_numeral (x ∷ []) = true
is_numeral (x ∷ y ∷ more) = flip (eqb x 48)

-- a word's number, at most `most`
unfoldable pub number_of : ℕ → List ℕ → Option ℕ
unfolding is_numeral number_from
number_of most word = pick (is_numeral word) (number_from most 0 word) None

-- a word's number, at most `most`
pub record Numbered (t : Option ℕ) (most : ℕ) (r : Option ℕ) : Type 0 where
  pub says : r ≡ t
  pub within : IfSome r (λ number. number ≤ most)
