-- A decimal number read digit by digit. Assumes nothing.
use Rattle.std.proofs.Common.{ℕ, ◌+◌, ◌*◌, ◌-◌, ◌≤◌, ◌<◌, ◌≡◌, refl, ◌∙◌, add-one, arith, Bool, true, false, None, Some, List, [], ◌∷◌, length, get_or, drop, drop_of_length-le, drop-cons, leb, lt-ltb, le-ltb, le-leb, leb-true}
use Rattle.std.proofs.lemmas.Bool.{lt-leb}
use Rattle.rules.specs.Choice.{either, both, any, is_empty}
use Rattle.rules.specs.Unit.{is_digit}
use Rattle.laws.specs.Empty.{filled}
use Rattle.terminal.specs.Number.{decimal_from, largest, is_no_digit, is_no_number, number_of}

-- ---- digits

-- more digits make no number smaller
grows : (n : ℕ) (xs : List ℕ) → n ≤ decimal_from n xs
unfolding decimal_from
grows n [] = omega arith
grows n (x ∷ xs) = omega (arith, grows (n * 10 + (x - 48)) xs)

-- i digits stand for the value, and the word is a number if what is left makes it one
pub record Counted (word : List ℕ) (value i : ℕ) : Type 0 where
  pub within : i ≤ length word
  pub small : value ≤ largest
  pub digits : any is_no_digit word ≡ any is_no_digit (drop i word)
  pub stands : decimal_from 0 word ≡ decimal_from value (drop i word)

either_true : (a : Bool) → either a true ≡ true
either_true true = refl
either_true false = refl

off : (x : ℕ) → (48 ≤ x → 57 < x) → is_digit x ≡ false
off x n = go (leb 48 x) refl
  where
    go : (b : Bool) → leb 48 x ≡ b → both b (leb x 57) ≡ false
    go true e = lt-leb x 57 (n (leb-true 48 x e))
    go false e = refl

is_none : (word : List ℕ) → is_no_number word ≡ true → number_of word ≡ None
unfolding number_of
is_none word h = rw h

-- an empty word
pub none_empty : (word : List ℕ) → length word ≡ 0 → number_of word ≡ None
unfolding is_no_number
none_empty word h = is_none word (go word h)
  where
    go : (xs : List ℕ) → length xs ≡ 0 → is_no_number xs ≡ true
    go [] h = refl
    go (x ∷ xs) h = absurd (omega arith)

module _ {word : List ℕ} where
  -- nothing is read yet
  pub none_counted : Counted word 0 0
  none_counted = record { within = omega arith; small = omega arith; digits = refl; stands = refl }

  module _ {value i : ℕ} (c : Counted word value i) where
    -- what a digit leaves to read
    behind : i < length word → (48 ≤ get_or word i 0) × (get_or word i 0 ≤ 57)
        → (any is_no_digit (drop i word) ≡ any is_no_digit (drop (i + 1) word))
        × (decimal_from value (drop i word) ≡ decimal_from (value * 10 + (get_or word i 0 - 48)) (drop (i + 1) word))
    unfolding decimal_from
    behind l d =
        let g : is_digit (get_or word i 0) ≡ true = rw (le-leb 48 (get_or word i 0) d.0, le-leb (get_or word i 0) 57 d.1) in
        (rw (drop-cons word i 0 l, g, add-one i), rw (drop-cons word i 0 l, add-one i))

    -- one digit more
    pub one_counted : {next : ℕ} → i < length word → (48 ≤ get_or word i 0) × (get_or word i 0 ≤ 57) → next ≡ value * 10 + (get_or word i 0 - 48) → next ≤ largest
        → Counted word next (i + 1)
    one_counted {next} l d e m =
        let (n, t) = behind l d in
        record { within = omega arith; small = m; digits = c.digits ∙ n; stands = c.stands ∙ t ∙ rw e refl }

    -- something else than a digit
    pub no_digit : i < length word → (48 ≤ get_or word i 0 → 57 < get_or word i 0) → number_of word ≡ None
    unfolding is_no_number
    no_digit l n =
        let g : is_digit (get_or word i 0) ≡ false = off (get_or word i 0) n in
        let a : any is_no_digit word ≡ true = c.digits ∙ rw (drop-cons word i 0 l, g) in
        is_none word (rw a (either_true (is_empty word)))

    -- too large, with one digit more
    pub past : i < length word → (48 ≤ get_or word i 0) × (get_or word i 0 ≤ 57) → largest < value * 10 + (get_or word i 0 - 48) → number_of word ≡ None
    unfolding is_no_number
    past l d h =
        let (n, t) = behind l d in
        let next = value * 10 + (get_or word i 0 - 48) in
        let g : largest < decimal_from 0 word = rw (c.stands ∙ t) (omega (arith, grows next (drop (i + 1) word))) in
        is_none word (rw (lt-ltb largest (decimal_from 0 word) g, either_true (any is_no_digit word)) (either_true (is_empty word)))

    -- a number
    pub a_number : length word ≤ i → (length word ≡ 0 → ⊥) → Some value ≡ number_of word
    unfolding number_of is_no_number decimal_from
    a_number l n =
        let e : drop i word ≡ [] = drop_of_length-le word {i = i} l in
        let d : any is_no_digit word ≡ false = rw e at c.digits in
        let v : decimal_from 0 word ≡ value = rw e at c.stands in
        let m : is_empty word ≡ false = filled word n in
        rw (m, d, v, le-ltb largest value c.small)

pub ruleset counts = (none_empty, none_counted, no_digit, past, a_number)
