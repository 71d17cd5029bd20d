-- Tests and choices: what a test leaves, and what holds whichever is picked. Assumes nothing.
use Rattle.std.specs.Prelude.{ℕ, ◌≡◌, refl, Bool, true, false, List, [], ◌∷◌, ◌++◌}
use Rattle.std.proofs.Common.{arith}
use Rattle.rules.specs.Choice.{pick, either, both, any}

-- a test does not both hold and fail
pub clash : {B : Type 0} (b : Bool) → b ≡ true → b ≡ false → B
clash b e f = let z : ◌≡◌ {A = ℕ} 0 1 = cc in absurd (omega arith)

-- two tests that together fail, where they are asked for, fail each
pub apart : (asked a b : Bool) → both asked (either a b) ≡ false → (both asked a ≡ false) × (both asked b ≡ false)
apart true true b h = (h, cc)
apart true false b h = (refl, h)
apart false a b h = (refl, refl)

-- what holds of both choices holds of the one that is picked
pub choose {ℓ} : {A : Type ℓ} (P : A → Type 0) (b : Bool) {x y : A} → P x → P y → P (pick b x y)
choose P true p q = p
choose P false p q = q

-- a test that holds of no element of two lists holds of none of the two put together
pub joint : {A : Type 0} (test : A → Bool) (xs ys : List A) → any test xs ≡ false → any test ys ≡ false → any test (xs ++ ys) ≡ false
joint test [] ys h g = g
joint test (x ∷ xs) ys h g = let (e, h') = apart true (test x) (any test xs) h in rw e (joint test xs ys h' g)

-- and a test that holds of none of two put together holds of none of either
pub apart_lists : {A : Type 0} (test : A → Bool) (xs ys : List A) → any test (xs ++ ys) ≡ false → (any test xs ≡ false) × (any test ys ≡ false)
apart_lists test [] ys h = (refl, h)
apart_lists test (x ∷ xs) ys h =
    let (e, h') = apart true (test x) (any test (xs ++ ys)) h in
    let (p, q) = apart_lists test xs ys h' in
    (rw e p, q)

-- a test that holds of an element of a list holds of an element of a longer one
pub any_behind : {A : Type 0} (test : A → Bool) (xs ys : List A) → any test ys ≡ true → any test (xs ++ ys) ≡ true
any_behind test [] ys h = h
any_behind test (x ∷ xs) ys h = go (test x) (any_behind test xs ys h)
  where
    go : (b : Bool) → any test (xs ++ ys) ≡ true → either b (any test (xs ++ ys)) ≡ true
    go true g = refl
    go false g = g

-- and so where the element is in front
pub any_front : {A : Type 0} (test : A → Bool) (xs ys : List A) → any test xs ≡ true → any test (xs ++ ys) ≡ true
any_front test [] ys h = cc
any_front test (x ∷ xs) ys h = go (test x) (any_front test xs ys) h
  where
    go : (b : Bool) → (any test xs ≡ true → any test (xs ++ ys) ≡ true) → either b (any test xs) ≡ true → either b (any test (xs ++ ys)) ≡ true
    go true ih h = refl
    go false ih h = ih h

-- where two tests together hold, each does
pub both_true : (a b : Bool) → both a b ≡ true → (a ≡ true) × (b ≡ true)
both_true true b h = (refl, h)
both_true false b h = (h, cc)
