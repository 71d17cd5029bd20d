-- The script without one final NUL, by its last unit. Assumes nothing.
use Prim.Native.Nat.{ℕ, suc, ◌-◌}
use native.Mathlib.Omega.{arith}
use borrow.Author.Tests.{eq-eqb, ne_eqb}
use mathlib.Core.Path.{◌≡◌, refl, ap}
use mathlib.Core.List.{List, [], ◌∷◌}
use lib.ListN.{length, get_or, take}
use Rattle.rules.specs.Building.{script_of}

-- the last place of a longer list
less_one : (n : ℕ) → suc (suc n) - 1 ≡ suc (suc n - 1)
less_one n = omega arith

-- a final NUL is dropped
pub cut_nul : (xs : List ℕ) → get_or xs (length xs - 1) 0 ≡ 0 → take (length xs - 1) xs ≡ script_of xs
unfolding script_of
cut_nul [] h = refl
cut_nul (x ∷ []) h = rw (eq-eqb x 0 h)
cut_nul (x ∷ y ∷ ys) h = rw (less_one (length ys)) (ap (λ (l : List ℕ). x ∷ l) (cut_nul (y ∷ ys) (rw (less_one (length ys)) at h)))

-- without one nothing is
pub no_nul : (xs : List ℕ) → (get_or xs (length xs - 1) 0 ≡ 0 → ⊥) → xs ≡ script_of xs
unfolding script_of
no_nul [] h = refl
no_nul (x ∷ []) h = rw (ne_eqb x 0 h)
no_nul (x ∷ y ∷ ys) h = ap (λ (l : List ℕ). x ∷ l) (no_nul (y ∷ ys) (rw (less_one (length ys)) at h))

-- an empty one stays
pub no_script : (xs : List ℕ) → length xs ≡ 0 → xs ≡ script_of xs
unfolding script_of
no_script [] h = refl
no_script (x ∷ xs) h = absurd (omega arith)

-- what tells a script by its last unit
pub ruleset last_nul = (cut_nul, no_nul, no_script)
