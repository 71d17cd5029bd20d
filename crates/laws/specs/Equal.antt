-- Two lists of numbers compared: one element after another, or by parts, which may overlap. Assumes nothing.
use Rattle.std.specs.Prelude.{ℕ, suc, ◌+◌, ◌-◌, ◌≤◌, ◌<◌, ◌≡◌, refl, Bool, true, false, ◌&&◌, List, [], ◌∷◌, ◌++◌, eqb, length, get_or, take, drop}
use Rattle.std.proofs.Math.Numerals.{add-one}
use Rattle.std.proofs.Common.{arith, sym, ap, ◌∙◌, length-drop, take-append-drop, take-suc, take_all, take-add, take-take, length-take-le, eq-eqb, ne_eqb, eqb-true}
use Rattle.std.proofs.Math.ListN.{drop_of_length-le}
use Rattle.std.proofs.Math.Seq.{drop-cons}
use Rattle.rules.specs.Choice.{both, equal}
use Rattle.rules.specs.Record.{part}
use Rattle.laws.specs.Any.{part_length, parts_join, last_part, four_units}
use Rattle.laws.specs.Choice.{both_true, clash}

-- lists of different lengths differ
pub unequal : (xs ys : List ℕ) → (length xs ≡ length ys → ⊥) → equal xs ys ≡ false
unfolding equal
unequal [] [] h = absurd (h refl)
unequal [] (y ∷ ys) h = refl
unequal (x ∷ xs) [] h = refl
unequal (x ∷ xs) (y ∷ ys) h = go (eqb x y) (unequal xs ys (λ e. h (ap suc e)))
  where
    go : (b : Bool) → equal xs ys ≡ false → both b (equal xs ys) ≡ false
    go true g = g
    go false g = refl

-- a list is the same as itself
pub equal_self : (xs : List ℕ) → equal xs xs ≡ true
unfolding equal
equal_self [] = refl
equal_self (x ∷ xs) = rw (eq-eqb x x refl, equal_self xs)

-- lists that are the same are one
pub equal_one : (xs ys : List ℕ) → equal xs ys ≡ true → xs ≡ ys
unfolding equal
equal_one [] [] h = refl
equal_one [] (y ∷ ys) h = clash false h refl
equal_one (x ∷ xs) [] h = clash false h refl
equal_one (x ∷ xs) (y ∷ ys) h =
    let (p, q) = both_true (eqb x y) (equal xs ys) h in
    rw (eqb-true x y p, equal_one xs ys q)

-- one list is not two that differ
pub not_one : {xs ys : List ℕ} → xs ≡ ys → ¬ (equal xs ys ≡ false)
not_one {xs} {ys} e h =
    let f : true ≡ false = sym (equal_self ys) ∙ rw e at h in
    let z : ◌≡◌ {A = ℕ} 0 1 = cc in
    omega arith

-- i elements are the same, and the lists are if what is left is
pub record Comparing (xs ys : List ℕ) (i : ℕ) : Type 0 where
  pub within : i ≤ length xs
  pub still : equal xs ys ≡ equal (drop i xs) (drop i ys)

module _ {xs ys : List ℕ} where
  -- none are compared yet
  pub none_compared : Comparing xs ys 0
  none_compared = record { within = omega arith; still = refl }

  module _ {i : ℕ} (c : Comparing xs ys i) (e : length xs ≡ length ys) where
    next : i < length xs → equal (drop i xs) (drop i ys) ≡ both (eqb (get_or xs i 0) (get_or ys i 0)) (equal (drop (i + 1) xs) (drop (i + 1) ys))
    unfolding equal
    next l = rw (drop-cons xs i 0 l, drop-cons ys i 0 (omega arith), add-one i)

    -- one more is the same
    pub one_same : i < length xs → get_or xs i 0 ≡ get_or ys i 0 → Comparing xs ys (i + 1)
    one_same l h = record { within = omega arith; still = c.still ∙ next l ∙ rw (eq-eqb (get_or xs i 0) (get_or ys i 0) h) }

    -- one differs
    pub one_differs : i < length xs → (get_or xs i 0 ≡ get_or ys i 0 → ⊥) → equal xs ys ≡ false
    one_differs l h = c.still ∙ next l ∙ rw (ne_eqb (get_or xs i 0) (get_or ys i 0) h)

    -- all are the same
    pub all_same : length xs ≤ i → equal xs ys ≡ true
    unfolding equal
    all_same l = c.still ∙ rw (drop_of_length-le xs {i = i} l, drop_of_length-le ys {i = i} (omega arith))

-- ---- by parts

-- three tests, joined in two ways
pub both_assoc : (a b d : Bool) → both (both a b) d ≡ both a (both b d)
both_assoc true b d = refl
both_assoc false b d = refl

-- lists, and lists behind them, where the first ones have one length
pub equal_append : (a b x y : List ℕ) → length a ≡ length b → equal (a ++ x) (b ++ y) ≡ both (equal a b) (equal x y)
unfolding equal
equal_append [] [] x y h = refl
equal_append [] (d ∷ b) x y h = absurd (omega arith)
equal_append (c ∷ a) [] x y h = absurd (omega arith)
equal_append (c ∷ a) (d ∷ b) x y h = rw (equal_append a b x y (omega arith), both_assoc)

-- a list is another and a rest behind it exactly where its front is the one and what is left the other
pub equal_front : (us x rest : List ℕ) → equal us (x ++ rest) ≡ both (equal (take (length x) us) x) (equal (drop (length x) us) rest)
unfolding equal
equal_front us [] rest = refl
equal_front [] (x ∷ xs) rest = refl
equal_front (u ∷ us) (x ∷ xs) rest = rw (equal_front us xs rest, both_assoc)

-- nothing is left of a list exactly where its end is reached
pub equal_end : (us : List ℕ) (i : ℕ) → i ≤ length us → equal (drop i us) [] ≡ eqb i (length us)
unfolding equal
equal_end us i h = go (drop i us) (length-drop i us)
  where
    go : (rest : List ℕ) → length rest ≡ length us - i → equal rest [] ≡ eqb i (length us)
    go [] e = sym (eq-eqb i (length us) (omega arith))
    go (x ∷ rest) e = sym (ne_eqb i (length us) (λ f. omega arith))

-- four tests in a row, as the code joins them
pub four_equal : (xs ys : List ℕ) (i : ℕ) → i + 4 ≤ length xs → i + 4 ≤ length ys
    → eqb (get_or xs i 0) (get_or ys i 0) && eqb (get_or xs (i + 1) 0) (get_or ys (i + 1) 0) && eqb (get_or xs (i + 2) 0) (get_or ys (i + 2) 0)
    && eqb (get_or xs (i + 3) 0) (get_or ys (i + 3) 0) ≡ equal (part xs i 4) (part ys i 4)
unfolding equal
four_equal xs ys i h g = rw (four_units xs i h, four_units ys i g) (go (same i) (same (i + 1)) (same (i + 2)) (same (i + 3)))
  where
    same : ℕ → Bool
    same j = eqb (get_or xs j 0) (get_or ys j 0)

    go : (a b c d : Bool) → a && b && c && d ≡ both a (both b (both c (both d true)))
    go false b c d = refl
    go true false c d = refl
    go true true false d = refl
    go true true true true = refl
    go true true true false = refl

-- one element more of the fronts
pub taken_equal : (xs ys : List ℕ) (i : ℕ) → i < length xs → i < length ys
    → equal (take i xs) (take i ys) && eqb (get_or xs i 0) (get_or ys i 0) ≡ equal (take (i + 1) xs) (take (i + 1) ys)
unfolding equal
taken_equal xs ys i h g =
    let e : length (take i xs) ≡ length (take i ys) = length-take-le i xs (omega arith) ∙ sym (length-take-le i ys (omega arith)) in
    let x = get_or xs i 0 in
    let y = get_or ys i 0 in
    rw (add-one i, take-suc xs i 0 h, take-suc ys i 0 g, equal_append (take i xs) (take i ys) (x ∷ []) (y ∷ []) e) (go (equal (take i xs) (take i ys)) (eqb x y))
  where
    go : (a b : Bool) → a && b ≡ both a (both b true)
    go false b = refl
    go true true = refl
    go true false = refl

-- one part and the part behind it
pub parts_equal : (xs ys : List ℕ) (i m n : ℕ) → i + m ≤ length xs → i + m ≤ length ys
    → equal (part xs i m) (part ys i m) && equal (part xs (i + m) n) (part ys (i + m) n) ≡ equal (part xs i (m + n)) (part ys i (m + n))
parts_equal xs ys i m n h g =
    let e : length (part xs i m) ≡ length (part ys i m) = part_length xs i m h ∙ sym (part_length ys i m g) in
    rw (parts_join xs i m n, parts_join ys i m n, equal_append (part xs i m) (part ys i m) (part xs (i + m) n) (part ys (i + m) n) e)
    (go (equal (part xs i m) (part ys i m)) (equal (part xs (i + m) n) (part ys (i + m) n)))
  where
    go : (a b : Bool) → a && b ≡ both a b
    go true b = refl
    go false b = refl

module _ (xs ys : List ℕ) where
  -- lists of which a part differs differ
  pub part_differs : (i n : ℕ) → equal (part xs i n) (part ys i n) ≡ false → equal xs ys ≡ false
  part_differs i n h = go (equal xs ys) refl
    where
      go : (b : Bool) → equal xs ys ≡ b → b ≡ false
      go false e = refl
      go true e = clash (equal (part xs i n) (part ys i n)) (rw (equal_one xs ys e) (equal_self (part ys i n))) h

  -- lists that agree to their end are the same
  pub all_agree : (i : ℕ) → length xs ≡ length ys → length xs ≤ i → take i xs ≡ take i ys → equal xs ys ≡ true
  all_agree i l h t =
      let e : xs ≡ ys = sym (take_all i xs h) ∙ t ∙ take_all i ys (omega arith) in
      rw e (equal_self ys)

  -- lists that agree so far agree behind a part that is the same
  pub part_agrees : (i n : ℕ) → take i xs ≡ take i ys → equal (part xs i n) (part ys i n) ≡ true → take (i + n) xs ≡ take (i + n) ys
  part_agrees i n h e = take-add i n xs ∙ rw (h, equal_one (part xs i n) (part ys i n) e) (sym (take-add i n ys))

  -- where they agree as far as the last part, or into it, that part decides
  pub last_decides : (i at n : ℕ) → length xs ≡ length ys → at + n ≡ length xs → at ≤ i → take i xs ≡ take i ys
      → equal (part xs at n) (part ys at n) ≡ equal xs ys
  last_decides i at n l e h t = go (equal (part xs at n) (part ys at n)) refl
    where
      front : take at xs ≡ take at ys
      front = sym (take-take at i xs h) ∙ rw t (take-take at i ys h)

      go : (b : Bool) → equal (part xs at n) (part ys at n) ≡ b → b ≡ equal xs ys
      go false d = sym (part_differs at n d)
      go true d =
          let p : drop at xs ≡ drop at ys = rw (← last_part xs at n e, ← last_part ys at n (e ∙ l)) (equal_one (part xs at n) (part ys at n) d) in
          let q : xs ≡ ys = sym (take-append-drop at xs) ∙ rw (front, p) (take-append-drop at ys) in
          rw q (sym (equal_self ys))

  -- two parts, of which the second begins in the first or right behind it and ends the lists, decide
  pub two_decide : (at n m : ℕ) → length xs ≡ length ys → at + m ≡ length xs → at ≤ n
      → equal (part xs 0 n) (part ys 0 n) && equal (part xs at m) (part ys at m) ≡ equal xs ys
  two_decide at n m l e h = go (equal (part xs 0 n) (part ys 0 n)) refl
    where
      go : (b : Bool) → equal (part xs 0 n) (part ys 0 n) ≡ b → b && equal (part xs at m) (part ys at m) ≡ equal xs ys
      go true d = last_decides n at m l e h (equal_one (part xs 0 n) (part ys 0 n) d)
      go false d = sym (part_differs 0 n d)
