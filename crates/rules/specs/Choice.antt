-- Tests, and what hangs on them. Assumes nothing.
use Rattle.std.specs.Prelude.{ℕ, Bool, true, false, List, [], ◌∷◌, eqb}

-- the first where the test holds, else the second
abbrev pub pick {ℓ} : {A : Type ℓ} → Bool → A → A → A
pick true a b = a
pick false a b = b

-- one of two tests holds, or both do
abbrev pub either : Bool → Bool → Bool
either true b = true
either false b = b

-- two tests hold
abbrev pub both : Bool → Bool → Bool
both true b = b
both false b = false

-- the test does not hold
abbrev pub flip : Bool → Bool
flip true = false
flip false = true

-- the test holds of an element of the list
abbrev pub any {ℓ} : {A : Type ℓ} → (A → Bool) → List A → Bool
any test [] = false
any test (x ∷ xs) = either (test x) (any test xs)

-- the list has no elements
abbrev pub is_empty {ℓ} : {A : Type ℓ} → List A → Bool
is_empty [] = true
is_empty (x ∷ xs) = false

-- two lists are the same, element by element
unfoldable pub equal : List ℕ → List ℕ → Bool
equal [] [] = true
equal [] (y ∷ ys) = false
equal (x ∷ xs) [] = false
equal (x ∷ xs) (y ∷ ys) = both (eqb x y) (equal xs ys)
