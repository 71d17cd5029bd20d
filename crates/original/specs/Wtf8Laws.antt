-- What tests on the bytes of a text tell: bytes below 128 stand for units below 128. Assumes nothing.
use Rattle.std.specs.Prelude.{ℕ, ◌+◌, ◌/◌, ◌%◌, ◌≤◌, ◌≡◌, Bool, ltb, eqb}
use Rattle.std.proofs.Common.{arith, ltb-false, ne_eqb, ◌∙◌}
use Rattle.std.proofs.Math.Path.{refl}
use Rattle.std.proofs.Math.Bool.{true, false}
use mathlib.Core.List.{List, [], ◌∷◌, ◌++◌}
use Rattle.rules.specs.Choice.{pick, either, both, any, is_empty}
use Rattle.rules.specs.Batch.{ends_in_backslash}
use Rattle.laws.specs.Choice.{both_true}
use Rattle.original.specs.Language.{◌==Some◌}
use Rattle.original.specs.Shims.{last, is_high, is_low, pair, code_points, encoded, encoded_all, as_encoded_bytes}
use Rattle.original.specs.Laws.{within_least}

-- ---- a test on bytes that holds of none from 128 up
module _ (p : ℕ → Bool) (high : (b : ℕ) → 128 ≤ b → p b ≡ false) where
  encoded_any : (cp : ℕ) (rest : List ℕ) → any p (encoded cp ++ rest) ≡ either (p cp) (any p rest)
  encoded_any cp rest = go (ltb cp 0x80) (ltb cp 0x800) (ltb cp 0x10000) refl refl refl
    where
      go : (a b c : Bool) → ltb cp 0x80 ≡ a → ltb cp 0x800 ≡ b → ltb cp 0x10000 ≡ c → any p (encoded cp ++ rest) ≡ either (p cp) (any p rest)
      go true b c ea eb ec = rw ea
      go false true c ea eb ec =
          let h : 128 ≤ cp = ltb-false cp 128 ea in
          rw (ea, eb, high cp h, high (0xc0 + cp / 64) (omega arith), high (0x80 + cp % 64) (omega arith))
      go false false true ea eb ec =
          let h : 128 ≤ cp = ltb-false cp 128 ea in
          rw (ea, eb, ec, high cp h, high (0xe0 + cp / 4096) (omega arith), high (0x80 + cp / 64 % 64) (omega arith), high (0x80 + cp % 64) (omega arith))
      go false false false ea eb ec =
          let h : 128 ≤ cp = ltb-false cp 128 ea in
          rw (ea, eb, ec, high cp h, high (0xf0 + cp / 262144) (omega arith), high (0x80 + cp / 4096 % 64) (omega arith))
          (rw (high (0x80 + cp / 64 % 64) (omega arith), high (0x80 + cp % 64) (omega arith)))

  -- a pair, or the first unit alone
  split_any : (x y : ℕ) (ys : List ℕ) → any p (encoded_all (code_points ys)) ≡ any p ys → any p (encoded_all (code_points (y ∷ ys))) ≡ any p (y ∷ ys)
      → any p (encoded_all (code_points (x ∷ y ∷ ys))) ≡ any p (x ∷ y ∷ ys)
  unfolding code_points encoded_all
  split_any x y ys ih ih' = go (both (is_high x) (is_low y)) refl
    where
      go : (b : Bool) → both (is_high x) (is_low y) ≡ b → any p (encoded_all (code_points (x ∷ y ∷ ys))) ≡ any p (x ∷ y ∷ ys)
      go true e =
          let (h, l) = both_true (is_high x) (is_low y) e in
          let hx : 128 ≤ x = omega (arith, within_least 0xd800 0xdbff x h) in
          let hy : 128 ≤ y = omega (arith, within_least 0xdc00 0xdfff y l) in
          rw (e, encoded_any (pair x y), high (pair x y) (omega arith), high x hx, high y hy) ih
      go false e = rw (e, encoded_any x, ih')

  -- it tells of the bytes what it tells of the units
  pub any_bytes : (xs : List ℕ) → any p (as_encoded_bytes xs) ≡ any p xs
  unfolding as_encoded_bytes
  any_bytes [] = refl
  any_bytes (x ∷ []) = encoded_any x []
  any_bytes (x ∷ y ∷ ys) = split_any x y ys (any_bytes ys) (any_bytes (y ∷ ys))

-- ---- the last byte, and whether there is one

-- The bytes of a code point with others behind: there is one.
-- The last byte is a backslash where the code point is one and none are behind, or the last of those behind is.
record Followed (cp : ℕ) (rest : List ℕ) (whole : List ℕ) : Type 0 where
  some_byte : is_empty whole ≡ false
  last_byte : last whole ==Some 92 ≡ pick (is_empty rest) (eqb cp 92) (last rest ==Some 92)

no_backslash : (x : ℕ) → 128 ≤ x → eqb x 92 ≡ false
no_backslash x h = ne_eqb x 92 (λ e. omega arith)

one_behind : (cp b : ℕ) (rest : List ℕ) → eqb b 92 ≡ eqb cp 92 → Followed cp rest (b ∷ rest)
one_behind cp b [] e = record { some_byte = refl; last_byte = e }
one_behind cp b (x ∷ xs) e = record { some_byte = refl; last_byte = refl }

more_behind : (cp a : ℕ) (rest whole : List ℕ) → Followed cp rest whole → Followed cp rest (a ∷ whole)
more_behind cp a rest [] h = record { some_byte = refl; last_byte = let z : true ≡ false = h.some_byte in cc }
more_behind cp a rest (x ∷ xs) h = record { some_byte = refl; last_byte = h.last_byte }

encoded_behind : (cp : ℕ) (rest : List ℕ) → Followed cp rest (encoded cp ++ rest)
encoded_behind cp rest = go (ltb cp 0x80) (ltb cp 0x800) (ltb cp 0x10000) refl refl refl
  where
    tail : 128 ≤ cp → Followed cp rest ((0x80 + cp % 64) ∷ rest)
    tail h = one_behind cp (0x80 + cp % 64) rest (rw (no_backslash cp h, no_backslash (0x80 + cp % 64) (omega arith)))

    go : (a b c : Bool) → ltb cp 0x80 ≡ a → ltb cp 0x800 ≡ b → ltb cp 0x10000 ≡ c → Followed cp rest (encoded cp ++ rest)
    go true b c ea eb ec = rw ea (one_behind cp cp rest refl)
    go false true c ea eb ec =
        rw (ea, eb) (more_behind cp _ rest _ (tail (ltb-false cp 128 ea)))
    go false false true ea eb ec =
        rw (ea, eb, ec) (more_behind cp _ rest _ (more_behind cp _ rest _ (tail (ltb-false cp 128 ea))))
    go false false false ea eb ec =
        rw (ea, eb, ec) (more_behind cp _ rest _ (more_behind cp _ rest _ (more_behind cp _ rest _ (tail (ltb-false cp 128 ea)))))

-- there is a byte where there is a unit
pub empty_bytes : (xs : List ℕ) → is_empty (as_encoded_bytes xs) ≡ is_empty xs
unfolding as_encoded_bytes
empty_bytes [] = refl
empty_bytes (x ∷ []) = (encoded_behind x []).some_byte
empty_bytes (x ∷ y ∷ ys) = go (both (is_high x) (is_low y)) refl
  where
    go : (b : Bool) → both (is_high x) (is_low y) ≡ b → is_empty (as_encoded_bytes (x ∷ y ∷ ys)) ≡ false
    go true e = rw e (encoded_behind (pair x y) (encoded_all (code_points ys))).some_byte
    go false e = rw e (encoded_behind x (encoded_all (code_points (y ∷ ys)))).some_byte

EndsSame : List ℕ → Type 0
EndsSame xs = last (as_encoded_bytes xs) ==Some 92 ≡ ends_in_backslash xs

split_last : (x y : ℕ) (ys : List ℕ) → EndsSame ys → EndsSame (y ∷ ys) → EndsSame (x ∷ y ∷ ys)
unfolding EndsSame as_encoded_bytes ends_in_backslash
split_last x y ys ih ih' = go (both (is_high x) (is_low y)) refl
  where
    paired : (zs : List ℕ) → 128 ≤ y → EndsSame zs → last (encoded (pair x y) ++ encoded_all (code_points zs)) ==Some 92 ≡ ends_in_backslash (y ∷ zs)
    paired [] h e = (encoded_behind (pair x y) []).last_byte ∙ rw (no_backslash y h, no_backslash (pair x y) (omega arith))
    paired (z ∷ zs) h e = rw ((encoded_behind (pair x y) (encoded_all (code_points (z ∷ zs)))).last_byte, empty_bytes (z ∷ zs)) e

    go : (b : Bool) → both (is_high x) (is_low y) ≡ b → EndsSame (x ∷ y ∷ ys)
    go true e =
        let (h, l) = both_true (is_high x) (is_low y) e in
        rw e (paired ys (omega (arith, within_least 0xdc00 0xdfff y l)) ih)
    go false e = rw (e, (encoded_behind x (encoded_all (code_points (y ∷ ys)))).last_byte, empty_bytes (y ∷ ys)) ih'

-- the last byte is a backslash where the last unit is
pub last_bytes : (xs : List ℕ) → last (as_encoded_bytes xs) ==Some 92 ≡ ends_in_backslash xs
unfolding EndsSame as_encoded_bytes ends_in_backslash
last_bytes [] = refl
last_bytes (x ∷ []) = (encoded_behind x []).last_byte
last_bytes (x ∷ y ∷ ys) = split_last x y ys (last_bytes ys) (last_bytes (y ∷ ys))
