-- What a search for the first element that passes a test finds, and what stands before it. Assumes nothing.
use Rattle.std.specs.Prelude.{ℕ, suc, ◌+◌, ◌<◌, ◌≡◌, refl, Bool, true, false, List, [], ◌∷◌, ◌++◌, length, get_or, take, drop}
use Rattle.std.proofs.Common.{add-one, arith, sym, ap, ◌∙◌, take-append-drop, drop-cons, take_all}
use Rattle.rules.specs.Choice.{pick, either, flip, any}
use Rattle.laws.specs.Choice.{apart}
use Rattle.laws.specs.Scan.{leading, before}

-- nothing before it passes the test
pub before_none : (p : ℕ → Bool) (xs : List ℕ) → any p (take (before p xs) xs) ≡ false
unfolding leading
before_none p [] = refl
before_none p (x ∷ xs) = go (p x) refl (before_none p xs)
  where
    go : (b : Bool) → p x ≡ b → any p (take (before p xs) xs) ≡ false → any p (take (pick (flip b) (suc (before p xs)) 0) (x ∷ xs)) ≡ false
    go true e h = refl
    go false e h = rw e h

-- where it is in the list, it passes
pub before_met : (p : ℕ → Bool) (xs : List ℕ) → before p xs < length xs → p (get_or xs (before p xs) 0) ≡ true
unfolding leading
before_met p [] h = absurd (omega arith)
before_met p (x ∷ xs) h = go (p x) refl h (before_met p xs)
  where
    go : (b : Bool) → p x ≡ b → pick (flip b) (suc (before p xs)) 0 < suc (length xs) → (before p xs < length xs → p (get_or xs (before p xs) 0) ≡ true)
        → p (get_or (x ∷ xs) (pick (flip b) (suc (before p xs)) 0) 0) ≡ true
    go true e h ih = e
    go false e h ih = ih (omega arith)

-- where it is not, nothing passes
pub before_all : (p : ℕ → Bool) (xs : List ℕ) → before p xs ≡ length xs → any p xs ≡ false
before_all p xs e =
    let t : take (before p xs) xs ≡ xs = take_all (before p xs) xs (omega arith) in
    rw t at (before_none p xs)

-- a list is what stands before an index, what stands there, and what stands behind it
pub parted_at : (xs : List ℕ) (n : ℕ) → n < length xs → xs ≡ take n xs ++ get_or xs n 0 ∷ drop (n + 1) xs
parted_at xs n h = sym (take-append-drop n xs) ∙ ap (λ (l : List ℕ). take n xs ++ l) (rw (add-one n) (drop-cons xs n 0 h))

-- of two tests that together hold of no element, each holds of none
pub none_either : (p q : ℕ → Bool) (xs : List ℕ) → any (λ x. either (p x) (q x)) xs ≡ false → (any p xs ≡ false) × (any q xs ≡ false)
none_either p q [] h = (refl, refl)
none_either p q (x ∷ xs) h =
    let (e, h') = apart true (either (p x) (q x)) (any (λ x. either (p x) (q x)) xs) h in
    let (a, b) = apart true (p x) (q x) e in
    let (c, d) = none_either p q xs h' in
    (rw a c, rw b d)
