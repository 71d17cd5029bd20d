-- Whether a test holds of an element of a list, asked of its parts, which may overlap. Assumes nothing.
use Rattle.std.specs.Prelude.{ℕ, ◌+◌, ◌-◌, ◌≤◌, ◌<◌, ◌≡◌, refl, Bool, true, false, ◌||◌, List, [], ◌∷◌, ◌++◌, length, get_or, take, drop}
use Rattle.std.proofs.Common.{add-zero, arith, sym, ◌∙◌, length-drop, drop_of_length-le, take-append-drop, drop-cons, drop-drop, get_or-drop, take-add, take_all, length-take-le}
use Rattle.rules.specs.Choice.{either, any}
use Rattle.rules.specs.Record.{part}

-- ---- one of two tests

-- the code joins two tests as the rules do
pub or_either : (a b : Bool) → a || b ≡ either a b
or_either true b = refl
or_either false b = refl

-- a test made twice
pub twice : (a : Bool) → either a a ≡ a
twice true = refl
twice false = refl

-- tests that agree on every element agree on the list
pub any_same : (p q : ℕ → Bool) → ((x : ℕ) → p x ≡ q x) → (xs : List ℕ) → any p xs ≡ any q xs
any_same p q h [] = refl
any_same p q h (x ∷ xs) = rw (h x, any_same p q h xs)

-- two tests asked one after another are one of both
pub any_either : (p q : ℕ → Bool) (xs : List ℕ) → any p xs || any q xs ≡ any (λ x. either (p x) (q x)) xs
any_either p q [] = refl
any_either p q (x ∷ xs) = go (p x) (q x) (any p xs) (any q xs) (any_either p q xs)
  where
    go : (a b c d : Bool) → c || d ≡ any (λ x. either (p x) (q x)) xs → either a c || either b d ≡ either (either a b) (any (λ x. either (p x) (q x)) xs)
    go true b c d h = refl
    go false true true d h = refl
    go false true false d h = refl
    go false false c d h = h

-- ---- parts

-- a part that lies within is as long as it says
pub part_length : (xs : List ℕ) (i n : ℕ) → i + n ≤ length xs → length (part xs i n) ≡ n
part_length xs i n h = length-take-le n (drop i xs) (rw length-drop (omega arith))

-- one part behind another
pub parts_join : (xs : List ℕ) (i m n : ℕ) → part xs i (m + n) ≡ part xs i m ++ part xs (i + m) n
parts_join xs i m n = take-add m n (drop i xs) ∙ rw drop-drop

-- the last part is the rest
pub last_part : (xs : List ℕ) (i n : ℕ) → i + n ≡ length xs → part xs i n ≡ drop i xs
last_part xs i n h = take_all n (drop i xs) (rw length-drop (omega arith))

front_four : (xs : List ℕ) → 4 ≤ length xs → take 4 xs ≡ get_or xs 0 0 ∷ get_or xs 1 0 ∷ get_or xs 2 0 ∷ get_or xs 3 0 ∷ []
front_four [] h = absurd (omega arith)
front_four (a ∷ []) h = absurd (omega arith)
front_four (a ∷ b ∷ []) h = absurd (omega arith)
front_four (a ∷ b ∷ c ∷ []) h = absurd (omega arith)
front_four (a ∷ b ∷ c ∷ d ∷ xs) h = refl

-- the part of four units
pub four_units : (xs : List ℕ) (i : ℕ) → i + 4 ≤ length xs → part xs i 4 ≡ get_or xs i 0 ∷ get_or xs (i + 1) 0 ∷ get_or xs (i + 2) 0 ∷ get_or xs (i + 3) 0 ∷ []
four_units xs i h = simp (get_or-drop, add-zero) at (front_four (drop i xs) (rw length-drop (omega arith)))

module _ (p : ℕ → Bool) where
  -- a list and another behind it
  pub any_append : (xs ys : List ℕ) → any p (xs ++ ys) ≡ any p xs || any p ys
  any_append [] ys = refl
  any_append (x ∷ xs) ys = go (p x) (any_append xs ys)
    where
      go : (b : Bool) → any p (xs ++ ys) ≡ any p xs || any p ys → either b (any p (xs ++ ys)) ≡ either b (any p xs) || any p ys
      go true h = refl
      go false h = h

  -- four tests in a row, as the code joins them
  pub any_four : (xs : List ℕ) (i : ℕ) → i + 4 ≤ length xs
      → p (get_or xs i 0) || p (get_or xs (i + 1) 0) || p (get_or xs (i + 2) 0) || p (get_or xs (i + 3) 0) ≡ any p (part xs i 4)
  any_four xs i h = rw (four_units xs i h) (go (p (get_or xs i 0)) (p (get_or xs (i + 1) 0)) (p (get_or xs (i + 2) 0)) (p (get_or xs (i + 3) 0)))
    where
      go : (a b c d : Bool) → a || b || c || d ≡ either a (either b (either c (either d false)))
      go true b c d = refl
      go false true c d = refl
      go false false true d = refl
      go false false false true = refl
      go false false false false = refl

  -- two parts of which one begins where the other ends
  pub any_parts : (xs : List ℕ) (i m n : ℕ) → any p (part xs i m) || any p (part xs (i + m) n) ≡ any p (part xs i (m + n))
  any_parts xs i m n = sym (any_append (part xs i m) (part xs (i + m) n)) ∙ rw (parts_join xs i m n)

  -- ---- looking from the front on

  module _ (xs : List ℕ) where
    -- what is not looked at yet decides
    abbrev pub Open : ℕ → Type 0
    Open i = any p (drop i xs) ≡ any p xs

    front_rest : (i : ℕ) → any p xs ≡ any p (take i xs) || any p (drop i xs)
    front_rest i = rw (← (any_append (take i xs) (drop i xs)), take-append-drop)

    part_rest : (i n : ℕ) → any p (drop i xs) ≡ any p (part xs i n) || any p (drop (i + n) xs)
    part_rest i n = rw (← drop-drop, ← (any_append (take n (drop i xs)) (drop n (drop i xs))), take-append-drop)

    -- a part of one unit
    pub any_one : (i : ℕ) → i < length xs → any p (part xs i 1) ≡ p (get_or xs i 0)
    any_one i h = rw (drop-cons xs i 0) (go (p (get_or xs i 0)))
      where
        go : (b : Bool) → either b false ≡ b
        go true = refl
        go false = refl

    -- it holds of none of a part that is looked at
    pub part_none : (i n : ℕ) → Open i → any p (part xs i n) ≡ false → Open (i + n)
    part_none i n h e = rw e at (sym (part_rest i n) ∙ h)

    -- it holds of none, and all are looked at
    pub none_open : (i : ℕ) → Open i → length xs ≤ i → false ≡ any p xs
    none_open i h l = let e : drop i xs ≡ [] = drop_of_length-le xs {i = i} l in rw e at h

    -- it holds of one of a part
    pub part_one : (i n : ℕ) → any p (part xs i n) ≡ true → true ≡ any p xs
    part_one i n e = go (any p (take i xs)) (rw e at (part_rest i n)) (front_rest i)
      where
        go : (b : Bool) → any p (drop i xs) ≡ true → any p xs ≡ b || any p (drop i xs) → true ≡ any p xs
        go true r f = sym f
        go false r f = sym (f ∙ r)

    -- going back changes nothing
    pub back : (i j : ℕ) → Open i → j ≤ i → Open j
    back i j h l =
        let e : j + (i - j) ≡ i = omega arith in
        go (any p (take j xs)) (any p (part xs j (i - j))) (any p (drop i xs)) h (rw e at (part_rest j (i - j))) (front_rest j)
      where
        go : (a b c : Bool) → c ≡ any p xs → any p (drop j xs) ≡ b || c → any p xs ≡ a || any p (drop j xs) → any p (drop j xs) ≡ any p xs
        go a true true h r f = r ∙ h
        go a false true h r f = r ∙ h
        go true b false h r f = cc
        go false b false h r f = sym f

    -- two parts that overlap or meet, the first of which is the front and the other ends the list
    pub two_parts : (n j m : ℕ) → j ≤ n → j + m ≡ length xs → any p (part xs 0 n) || any p (part xs j m) ≡ any p xs
    two_parts n j m l h = go (any p (part xs 0 n)) refl
      where
        go : (b : Bool) → any p (part xs 0 n) ≡ b → b || any p (part xs j m) ≡ any p xs
        go true e = part_one 0 n e
        go false e = let g : j ≤ 0 + n = omega arith in rw (last_part xs j m h) (back (0 + n) j (part_none 0 n refl e) g)
