-- The last unit of a list, and whether it is a backslash. Assumes nothing.
use Rattle.std.specs.Prelude.{ℕ, suc, ◌-◌, ◌≡◌, refl, false, List, [], ◌∷◌, length, get_or}
use Rattle.std.proofs.Common.{arith}
use Rattle.rules.specs.Unit.{is_backslash}
use Rattle.rules.specs.Batch.{ends_in_backslash}

-- the last unit decides whether a list ends in a backslash
pub last_unit : (xs : List ℕ) → is_backslash (get_or xs (length xs - 1) 0) ≡ ends_in_backslash xs
unfolding ends_in_backslash
last_unit [] = refl
last_unit (x ∷ []) = refl
last_unit (x ∷ y ∷ ys) =
    let e : suc (suc (length ys)) - 1 ≡ suc (suc (length ys) - 1) = omega arith in
    rw e (last_unit (y ∷ ys))

-- a list of length 0 ends in none
pub no_last : (xs : List ℕ) → length xs ≡ 0 → false ≡ ends_in_backslash xs
unfolding ends_in_backslash
no_last [] h = refl
no_last (x ∷ xs) h = absurd (omega arith)
