-- A piece of an answer, and what bytes put one after another leave in it. Assumes nothing.
use Rattle.std.specs.Prelude.{ℕ, zero, suc, ◌+◌, ◌-◌, ◌≤◌, ◌<◌, min, ◌≡◌, refl, List, [], ◌∷◌, ltb, length, drop, set}
use Rattle.std.proofs.Common.{lt_of_not-le, add-one, arith, sym, ◌∙◌, length-set, lt-ltb, le-ltb}
use Rattle.std.proofs.Math.Decide.{dec_le}
use Rattle.std.proofs.lemmas.List.Edits.{sets}
use Rattle.rules.specs.Choice.{pick}
use Rattle.laws.specs.Store.{sets_out}
use Rattle.replies.specs.declared.places.Place.{Place}

-- a piece, how many bytes are still to be skipped, and where the next one goes
pub record Page : Type 0 where
  pub skip : ℕ
  pub at : ℕ
  pub piece : List ℕ

-- a page of so much
abbrev pub page : ℕ → ℕ → List ℕ → Page
page skip at piece = record { skip = skip; at = at; piece = piece }

-- the page at a place
abbrev pub on_page : Place → List ℕ → Page
on_page p piece = page p.skip p.at piece

-- one byte: it is skipped, stored, or dropped where the piece is full
unfoldable pub put_on : Page → ℕ → Page
put_on g x =
    let skipped = page (g.skip - 1) g.at g.piece in
    let stored = page g.skip (g.at + 1) (set g.piece g.at x) in
    pick (ltb 0 g.skip) skipped (pick (ltb g.at (length g.piece)) stored g)

-- bytes one after another
unfoldable pub put_all : Page → List ℕ → Page
unfolding put_on
put_all g [] = g
put_all g (x ∷ xs) = put_all (put_on g x) xs

-- The contract of a routine that puts bytes.
pub record Puts (bytes : List ℕ) (p r : Place) (before after : List ℕ) : Type 0 where
  pub puts : on_page r after ≡ put_all (on_page p before) bytes

-- ---- what a piece holds

-- Of bytes that are put from a place within a piece on, those behind the skipped ones are stored from there on, as far as there is room; the place behind
-- them is that of the next byte. So the pieces of an answer, each put with what was written before it skipped, are the answer.
pub record Window (bytes : List ℕ) (skip at : ℕ) (piece : List ℕ) (after : Page) : Type 0 where
  pub stores : after.piece ≡ sets piece at (drop skip bytes)
  pub ends : after.at ≡ min (at + (length bytes - skip)) (length piece)
  pub skips : after.skip ≡ skip - length bytes

-- a byte that is not skipped, where it is known what those behind it leave
one_byte : (x : ℕ) (xs : List ℕ) (at : ℕ) (piece : List ℕ) → Dec (length piece ≤ at)
    → Window xs 0 at piece (put_all (page 0 at piece) xs)
    → (at < length piece → Window xs 0 (at + 1) (set piece at x) (put_all (page 0 (at + 1) (set piece at x)) xs))
    → Window (x ∷ xs) 0 at piece (put_all (pick (ltb at (length piece)) (page 0 (at + 1) (set piece at x)) (page 0 at piece)) xs)
one_byte x xs at piece (yes g) w v =
    let s = sets_out piece at (x ∷ xs) g in
    rw (le-ltb at (length piece) g) (record { stores = w.stores ∙ sets_out piece at xs g ∙ sym s; ends = w.ends ∙ omega arith; skips = w.skips ∙ omega arith })
one_byte x xs at piece (no g) w v =
    let l : at < length piece = lt_of_not-le g in
    let n = length-set piece at x in
    let u = v l in
    rw (lt-ltb at (length piece) l) (record { stores = u.stores ∙ rw (add-one at); ends = u.ends ∙ omega arith; skips = u.skips ∙ omega arith })

pub window : (bytes : List ℕ) (skip at : ℕ) (piece : List ℕ) → at ≤ length piece → Window bytes skip at piece (put_all (page skip at piece) bytes)
unfolding put_all put_on
window [] zero at piece h = record { stores = refl; ends = omega arith; skips = omega arith }
window [] (suc skip) at piece h = record { stores = refl; ends = omega arith; skips = omega arith }
window (x ∷ xs) (suc skip) at piece h =
    let w = window xs skip at piece h in
    let e : suc skip - 1 ≡ skip = omega arith in
    rw (lt-ltb 0 (suc skip) (omega arith), e) (record { stores = w.stores; ends = w.ends ∙ omega arith; skips = w.skips ∙ omega arith })
window (x ∷ xs) zero at piece h =
    let n = length-set piece at x in
    one_byte x xs at piece (dec_le (length piece) at) (window xs 0 at piece h) (λ l. window xs 0 (at + 1) (set piece at x) (omega arith))
