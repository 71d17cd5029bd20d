-- A list is empty exactly where its length is 0. Assumes nothing.
use Rattle.std.specs.Prelude.{ℕ, ◌≡◌, refl, true, false, List, [], ◌∷◌, length}
use Rattle.std.proofs.Common.{arith}
use Rattle.rules.specs.Choice.{is_empty}

-- a list of length 0 is empty
pub empty : (xs : List ℕ) → length xs ≡ 0 → is_empty xs ≡ true
empty [] h = refl
empty (x ∷ xs) h = absurd (omega arith)

-- any other is not
pub filled : (xs : List ℕ) → (length xs ≡ 0 → ⊥) → is_empty xs ≡ false
filled [] h = absurd (h refl)
filled (x ∷ xs) h = refl
