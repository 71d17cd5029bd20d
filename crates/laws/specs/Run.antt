-- What stands at a place of a list: a unit, a run of units that pass a test, a rest. Assumes nothing.
use Rattle.std.specs.Prelude.{◌≡◌, refl, Bool, true, false, List, [], ◌∷◌, ℕ, suc, ◌+◌, ◌-◌, ◌≤◌, ◌<◌, length, get_or, take, drop, eqb}
use Rattle.std.proofs.Common.{ap, ◌∙◌, add-one, arith, length-drop, drop-cons, drop-drop, eqb-true}
use Rattle.rules.specs.Choice.{pick}
use Rattle.laws.specs.Scan.{leading, leading_in}
use Rattle.laws.specs.Store.{part_is}

-- the first unit passes the test; an empty list has none
unfoldable pub starts_with : (ℕ → Bool) → List ℕ → Bool
starts_with p [] = false
starts_with p (x ∷ xs) = p x

-- no test both holds and fails
pub differ : false ≡ true → ⊥
differ z = let w : ◌≡◌ {A = ℕ} 0 1 = cc in omega arith

-- the unit at i, and what follows it
pub at : (rest : List ℕ) (i : ℕ) → i < length rest → drop i rest ≡ get_or rest i 0 ∷ drop (i + 1) rest
at rest i h = rw (add-one, drop-cons rest i 0)

-- the same where the unit is known
pub at_is : (rest : List ℕ) (i x : ℕ) → i < length rest → get_or rest i 0 ≡ x → drop i rest ≡ x ∷ drop (i + 1) rest
at_is rest i x h e = rw (← e) (at rest i h)

-- k units at i are a run of those that pass the test, and they lie in the list
abbrev pub RunAt : (ℕ → Bool) → List ℕ → ℕ → ℕ → Type 0
RunAt p rest i k = (k ≡ leading p (drop i rest)) × (i + k ≤ length rest)

-- so many as a scan finds at the front of the part from i on
pub run_at : (p : ℕ → Bool) (rest : List ℕ) (i : ℕ) {k : ℕ} → i ≤ length rest → k ≡ leading p (take (length rest - i) (drop i rest)) → RunAt p rest i k
run_at p rest i {k} h e =
    let s : k ≡ leading p (drop i rest) = e ∙ ap (leading p) (part_is i rest) in
    let l : leading p (drop i rest) ≤ length (drop i rest) = leading_in p (drop i rest) in
    (s, omega (arith, length-drop i rest))

-- the part from i on as long as k, as the code's rule has it
pub part_run : (rest : List ℕ) (i k : ℕ) → take (i + k - i) (drop i rest) ≡ take k (drop i rest)
part_run rest i k = let e : i + k - i ≡ k = omega arith in rw e

-- behind a run no unit passes the test
pub run_stops : (p : ℕ → Bool) (xs : List ℕ) → starts_with p (drop (leading p xs) xs) ≡ false
unfolding leading starts_with
run_stops p [] = refl
run_stops p (x ∷ xs) = go (p x) (run_stops p xs) refl
  where
    go : (b : Bool) → starts_with p (drop (leading p xs) xs) ≡ false → p x ≡ b → starts_with p (drop (pick b (suc (leading p xs)) 0) (x ∷ xs)) ≡ false
    go true h e = h
    go false h e = e

-- the same behind a run at i
pub stops_at : (p : ℕ → Bool) (rest : List ℕ) (i : ℕ) {k : ℕ} → k ≡ leading p (drop i rest) → starts_with p (drop (i + k) rest) ≡ false
stops_at p rest i e = rw (e, ← drop-drop) (run_stops p (drop i rest))

-- a rest that starts with a unit
pub starts_with_lem : (x : ℕ) (xs : List ℕ) → starts_with (λ y. eqb y x) xs ≡ true → xs ≡ x ∷ drop 1 xs
unfolding starts_with
starts_with_lem x [] e = absurd (differ e)
starts_with_lem x (y ∷ xs) e = ap (λ (z : ℕ). z ∷ xs) (eqb-true y x e)

-- the test on the first unit of a rest that has one
pub starts_at : (p : ℕ → Bool) (xs : List ℕ) → 0 < length xs → p (get_or xs 0 0) ≡ starts_with p xs
unfolding starts_with
starts_at p [] h = absurd (omega arith)
starts_at p (x ∷ xs) h = refl

-- a rest that has none
pub starts_none : (p : ℕ → Bool) (xs : List ℕ) → length xs ≤ 0 → false ≡ starts_with p xs
unfolding starts_with
starts_none p [] h = refl
starts_none p (x ∷ xs) h = absurd (omega arith)
