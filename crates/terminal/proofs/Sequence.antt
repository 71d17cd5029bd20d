-- One sequence at the front of bytes. Assumes nothing.
use Rattle.std.proofs.Common.{ℕ, ◌+◌, ◌*◌, ◌%◌, ◌≤◌, ◌<◌, ◌≡◌, refl, ◌∙◌, arith, zero-le, Bool, true, false, Option, None, Some, List, [], ◌∷◌, length, get_or, leb, ltb, lt-ltb, le-ltb, le-leb, leb-true}
use Rattle.std.proofs.lemmas.Bool.{lt-leb}
use Rattle.std.specs.Prelude.{IfSome}
use Rattle.rules.specs.Choice.{pick, both}
use Rattle.rules.specs.Unit.{within}
use Rattle.laws.specs.Choice.{both_true, choose}
use Rattle.terminal.specs.declared.utf8.Lead.{Lead}
use Rattle.terminal.specs.declared.utf8.Scalar.{Scalar}
use Rattle.terminal.specs.Utf8.{lead_of, row_of, are_tails, is_whole, value_of, scalar_in_row, scalar_of}
use Rattle.terminal.proofs.Ranges.{in_range, below, above}

both_last : (b : Bool) → both b true ≡ b
both_last true = refl
both_last false = refl

-- ---- the rows

module _ (x : ℕ) where
  pub row_1 : x < 128 → lead_of x ≡ row_of 1 128 191
  unfolding lead_of
  row_1 h = rw (in_range 0 127 x zero-le (omega arith))

  pub row_2 : 194 ≤ x → x < 224 → lead_of x ≡ row_of 2 128 191
  unfolding lead_of
  row_2 a b = rw (above 0 127 x (omega arith), in_range 194 223 x a (omega arith))

  past_2 : {A : Type 0} (r₁ r₂ rest : A) → 223 < x → pick (within 0 127 x) r₁ (pick (within 194 223 x) r₂ rest) ≡ rest
  past_2 r₁ r₂ rest h = rw (above 0 127 x (omega arith), above 194 223 x h)

  pub row_3 : 225 ≤ x → x < 237 → lead_of x ≡ row_of 3 128 191
  unfolding lead_of
  row_3 a b = past_2 _ _ _ (omega arith) ∙ rw (above 224 224 x (omega arith), in_range 225 236 x a (omega arith))

  past_3 : {A : Type 0} (r₁ r₂ rest : A) → 236 < x → pick (within 224 224 x) r₁ (pick (within 225 236 x) r₂ rest) ≡ rest
  past_3 r₁ r₂ rest h = rw (above 224 224 x (omega arith), above 225 236 x h)

  pub row_3_last : 238 ≤ x → x < 240 → lead_of x ≡ row_of 3 128 191
  unfolding lead_of
  row_3_last a b = past_2 _ _ _ (omega arith) ∙ past_3 _ _ _ (omega arith) ∙ rw (above 237 237 x (omega arith), in_range 238 239 x a (omega arith))

  past_3_last : {A : Type 0} (r₁ r₂ r₃ rest : A) → 240 < x → pick (within 237 237 x) r₁ (pick (within 238 239 x) r₂ (pick (within 240 240 x) r₃ rest)) ≡ rest
  past_3_last r₁ r₂ r₃ rest h = rw (above 237 237 x (omega arith), above 238 239 x (omega arith), above 240 240 x h)

  pub row_4 : 241 ≤ x → x < 244 → lead_of x ≡ row_of 4 128 191
  unfolding lead_of
  row_4 a b = past_2 _ _ _ (omega arith) ∙ past_3 _ _ _ (omega arith) ∙ past_3_last _ _ _ _ (omega arith) ∙ rw (in_range 241 243 x a (omega arith))

  -- no row: between the first two
  pub row_none : 127 < x → x < 194 → lead_of x ≡ None
  unfolding lead_of
  row_none a b =
      rw (
        above 0 127 x a,
        below 194 223 x b,
        below 224 224 x (omega arith),
        below 225 236 x (omega arith),
        below 237 237 x (omega arith),
        below 238 239 x (omega arith),
        below 240 240 x (omega arith),
        below 241 243 x (omega arith),
        below 244 244 x (omega arith),
      )

  -- no row: behind the last
  pub row_none_last : 245 ≤ x → lead_of x ≡ None
  unfolding lead_of
  row_none_last a =
      past_2 _ _ _ (omega arith) ∙ past_3 _ _ _ (omega arith) ∙ past_3_last _ _ _ _ (omega arith) ∙ rw (above 241 243 x (omega arith), above 244 244 x (omega arith))

pub row_224 : lead_of 224 ≡ row_of 3 160 191
unfolding lead_of
row_224 = refl

pub row_237 : lead_of 237 ≡ row_of 3 128 159
unfolding lead_of
row_237 = refl

pub row_240 : lead_of 240 ≡ row_of 4 144 191
unfolding lead_of
row_240 = refl

pub row_244 : lead_of 244 ≡ row_of 4 128 143
unfolding lead_of
row_244 = refl

pub ruleset rows = (row_1, row_2, row_224, row_3, row_237, row_3_last, row_240, row_4, row_244, row_none, row_none_last)

-- ---- a whole sequence

module _ (count : ℕ) (xs : List ℕ) where
  -- no more than two bytes
  pub tails_two : count < 3 → are_tails count xs ≡ true
  unfolding are_tails
  tails_two h = rw (lt-ltb count 3 h)

  -- three
  pub tails_three : 3 ≤ count → count < 4 → are_tails count xs ≡ within 128 191 (get_or xs 2 0)
  unfolding are_tails
  tails_three h l = rw (le-ltb count 3 h, lt-ltb count 4 l) (both_last (within 128 191 (get_or xs 2 0)))

  -- four
  pub tails_four : 4 ≤ count → are_tails count xs ≡ both (within 128 191 (get_or xs 2 0)) (within 128 191 (get_or xs 3 0))
  unfolding are_tails
  tails_four h = rw (le-ltb count 3 (omega arith), le-ltb count 4 h)

pub ruleset tails = (tails_two, tails_three, tails_four)

module _ (row : Lead) (xs : List ℕ) where
  -- too few bytes
  pub whole_cut : length xs < row.count → is_whole row xs ≡ false
  unfolding is_whole
  whole_cut l = rw (lt-leb row.count (length xs) l)

  -- one byte
  pub whole_one : row.count ≤ length xs → row.count < 2 → is_whole row xs ≡ true
  unfolding is_whole
  whole_one enough h = rw (le-leb row.count (length xs) enough, lt-ltb row.count 2 h)

  -- it hangs on the second byte and those behind it
  pub whole_more : row.count ≤ length xs → 2 ≤ row.count → is_whole row xs ≡ both (within row.least row.most (get_or xs 1 0)) (are_tails row.count xs)
  unfolding is_whole
  whole_more enough two = rw (le-leb row.count (length xs) enough, le-ltb row.count 2 two)

pub ruleset wholes = (whole_cut, whole_one, whole_more)

-- ---- the character

-- a character has at most 21 bits
value_small : (count : ℕ) (xs : List ℕ) → value_of count xs < 2097152
unfolding value_of
value_small count xs = go (ltb count 2) (ltb count 3) (ltb count 4)
  where
    go : (p q r : Bool)
        → pick p (get_or xs 0 0 % 128)
        (pick q (get_or xs 0 0 % 32 * 64 + get_or xs 1 0 % 64)
        (pick r
        ((get_or xs 0 0 % 16 * 64 + get_or xs 1 0 % 64) * 64 + get_or xs 2 0 % 64)
        (((get_or xs 0 0 % 8 * 64 + get_or xs 1 0 % 64) * 64 + get_or xs 2 0 % 64) * 64 + get_or xs 3 0 % 64)))
        < 2097152
    go true q r = omega arith
    go false true r = omega arith
    go false false true = omega arith
    go false false false = omega arith

module _ (xs : List ℕ) where
  pub value_1 : value_of 1 xs ≡ get_or xs 0 0 % 128
  unfolding value_of
  value_1 = refl

  pub value_2 : value_of 2 xs ≡ get_or xs 0 0 % 32 * 64 + get_or xs 1 0 % 64
  unfolding value_of
  value_2 = refl

  pub value_3 : value_of 3 xs ≡ (get_or xs 0 0 % 16 * 64 + get_or xs 1 0 % 64) * 64 + get_or xs 2 0 % 64
  unfolding value_of
  value_3 = refl

  pub value_4 : (count : ℕ) → 4 ≤ count → value_of count xs ≡ ((get_or xs 0 0 % 8 * 64 + get_or xs 1 0 % 64) * 64 + get_or xs 2 0 % 64) * 64 + get_or xs 3 0 % 64
  unfolding value_of
  value_4 count h = rw (le-ltb count 2 (omega arith), le-ltb count 3 (omega arith), le-ltb count 4 h)

pub ruleset values = (value_1, value_2, value_3, value_4)

-- each row has bytes
pub row_some : (byte : ℕ) → IfSome (lead_of byte) (λ row. 0 < row.count)
unfolding lead_of
row_some byte =
    choose P (within 0 127 byte) (omega arith)
    (choose P (within 194 223 byte) (omega arith)
    (choose P (within 224 224 byte) (omega arith)
    (choose P (within 225 236 byte) (omega arith)
    (choose P (within 237 237 byte) (omega arith)
    (choose P (within 238 239 byte) (omega arith)
    (choose P (within 240 240 byte) (omega arith)
    (choose P (within 241 243 byte) (omega arith)
    (choose P (within 244 244 byte) (omega arith) tt))))))))
  where
    P : Option Lead → Type 0
    P r = IfSome r (λ row. 0 < row.count)

-- a whole sequence has no more bytes than there are
pub whole_in : (row : Lead) (xs : List ℕ) → is_whole row xs ≡ true → row.count ≤ length xs
unfolding is_whole
whole_in row xs h = leb-true row.count (length xs) (both_true (leb row.count (length xs)) _ h).0

-- no bytes
pub of_empty : (xs : List ℕ) → length xs ≡ 0 → scalar_of xs ≡ None
unfolding scalar_of lead_of is_whole
of_empty [] h = refl
of_empty (x ∷ xs) h = absurd (omega arith)

module _ (xs : List ℕ) where
  -- a first byte in no row
  pub of_no_row : lead_of (get_or xs 0 0) ≡ None → scalar_of xs ≡ None
  unfolding scalar_of
  of_no_row e = rw e refl

  -- a whole sequence at the front
  pub of_whole : (row : Lead) → lead_of (get_or xs 0 0) ≡ Some row → is_whole row xs ≡ true
      → scalar_of xs ≡ Some (record { value = value_of row.count xs; bytes = row.count })
  unfolding scalar_of
  of_whole row e h = rw (e, h)

  -- none
  pub of_none : (row : Lead) → lead_of (get_or xs 0 0) ≡ Some row → is_whole row xs ≡ false → scalar_of xs ≡ None
  unfolding scalar_of
  of_none row e h = rw (e, h)

  -- a whole sequence has bytes
  pub whole_some : (row : Lead) → lead_of (get_or xs 0 0) ≡ Some row → 0 < row.count
  whole_some row e = rw e at (row_some (get_or xs 0 0))

abbrev scalar : ℕ → ℕ → Scalar
scalar value bytes = record { value = value; bytes = bytes }

-- a character at the front has at least one byte and no more than there are, and at most 21 bits
pub record Fine (xs : List ℕ) (s : Scalar) : Type 0 where
  pub some : 0 < s.bytes
  pub within : s.bytes ≤ length xs
  pub small : s.value < 2097152

pub scalar_fine : (xs : List ℕ) (s : Scalar) → scalar_of xs ≡ Some s → Fine xs s
unfolding scalar_of
scalar_fine xs s h = of_row (lead_of (get_or xs 0 0)) refl h
  where
    of_pick : (row : Lead) → lead_of (get_or xs 0 0) ≡ Some row → (b : Bool) → is_whole row xs ≡ b
        → pick b (Some (scalar (value_of row.count xs) row.count)) None ≡ Some s → Fine xs s
    of_pick row e true w g =
        let f : scalar (value_of row.count xs) row.count ≡ s = cc in
        rw (← f) (record { some = whole_some xs row e; within = whole_in row xs w; small = value_small row.count xs })
    of_pick row e false w g = absurd (let z : ◌≡◌ {A = ℕ} 0 1 = cc in omega arith)

    of_row : (r : Option Lead) → lead_of (get_or xs 0 0) ≡ r → scalar_in_row xs r ≡ Some s → Fine xs s
    of_row None e g = absurd (let z : ◌≡◌ {A = ℕ} 0 1 = cc in omega arith)
    of_row (Some row) e g = of_pick row e (is_whole row xs) refl g

pub ruleset scalars = (of_empty, of_no_row, of_whole, of_none, whole_in, whole_some)
