-- The first bad entry of a slice by its cause, and that a slice without one starts with a block. Assumes nothing.
use Rattle.std.specs.Prelude.{ℕ, ◌+◌, ◌≡◌, refl, ◌↔◌, Bool, true, false, List, [], ◌∷◌, ◌++◌, length, drop}
use Rattle.std.proofs.Common.{arith, eqb-true, sym, ap, ◌∙◌}
use Rattle.rules.specs.Choice.{any, is_empty}
use Rattle.rules.specs.Unit.{is_nul, is_equals, nul}
use Rattle.rules.specs.Outcome.{wrong}
use Rattle.rules.specs.Record.{Lent, whole, cut, Entry}
use Rattle.rules.specs.Block.{block, entry_units}
use Rattle.rules.specs.BlockReading.{pieces, before_final, lent_entries, starts_with_nul, splits, split_of, piece_finding, entries_read}
use Rattle.laws.specs.Choice.{clash, apart}
use Rattle.laws.specs.Nul.{Clean}
use Rattle.laws.specs.Fault.{Sound, FirstWrong, never, first_wrong, all_sound}
use Rattle.laws.specs.Entry.{Plain, AllPlain, text_of, split_is, first_units}
use Rattle.laws.specs.Pieces.{piece_ended, piece_cut, before_final_lem, as_pieces, pieces_front, sound_pieces, starts_clean, starts_entry, block_front, good}

-- ---- the first bad entry

-- what the rest of a slice is where an entry should start, and none is there that is good:
pub data Cause (rest : List ℕ) : Type 0 where
  -- "an entry, or the final NUL, runs into the end of the slice": there is no NUL
  runs : Clean rest → Cause rest
  -- "an entry has no such `=`": units that a NUL ends do not split
  unsplit : (a tail : List ℕ) → rest ≡ a ++ nul ∷ tail → Clean a → is_empty a ≡ false → splits a ≡ false → Cause rest

-- entry i of a slice, counted from 0, is the first bad one:
pub data Bad (lent : List ℕ) (i : ℕ) : Type 0 where
  -- it stands behind i good ones
  behind : (entries : List Entry) (rest : List ℕ) → AllPlain entries → length entries ≡ i → lent ≡ entry_units entries ++ rest → Cause rest → Bad lent i
  -- "or the first unit is NUL and the second isn't there or isn't NUL (place 1)"
  lone : i ≡ 0 → starts_with_nul lent ≡ true → starts_with_nul (drop 1 lent) ≡ false → Bad lent i

-- what a cause leaves as the first piece
record Faulty (rest : List ℕ) : Type 0 where
  piece : Lent (List ℕ)
  more : List (Lent (List ℕ))
  left : before_final (pieces rest) ≡ piece ∷ more
  found : piece_finding piece ≡ wrong 8
  starts : starts_with_nul rest ≡ false

faulty : (rest : List ℕ) → Cause rest → Faulty rest
unfolding before_final
faulty rest (runs c) = record { piece = cut; more = []; left = rw (piece_cut rest c); found = refl; starts = go rest c }
  where
    go : (xs : List ℕ) → Clean xs → starts_with_nul xs ≡ false
    go [] c = refl
    go (x ∷ xs) c = (apart true (is_nul x) (any is_nul xs) c).0
faulty rest (unsplit a tail same c f s) =
    record {
      piece = whole a;
      more = before_final (pieces tail);
      left = rw (same, piece_ended a tail c) (before_final_lem a (pieces tail) f);
      found = rw s;
      starts = ap starts_with_nul same ∙ starts_clean a (nul ∷ tail) f c;
    }

-- behind sound pieces a wrong one is the first
first_behind : (entries : List Entry) (p : Lent (List ℕ)) (more : List (Lent (List ℕ))) → AllPlain entries → piece_finding p ≡ wrong 8
    → FirstWrong piece_finding 8 (length entries) (as_pieces entries ++ p ∷ more)
first_behind [] p more h f = record { one = p; stands = refl; found = f; earlier = tt }
first_behind (e ∷ es) p more h f =
    let w = first_behind es p more h.1 f in
    record { one = w.one; stands = w.stands; found = w.found; earlier = ((sound_pieces (e ∷ es) h).0, w.earlier) }

starts_behind : (entries : List Entry) (rest : List ℕ) → AllPlain entries → starts_with_nul rest ≡ false → starts_with_nul (entry_units entries ++ rest) ≡ false
unfolding entry_units
starts_behind [] rest h z = z
starts_behind (e ∷ more) rest h z = starts_entry e more rest h.0

-- a bad entry is found at its place
pub bad : (lent : List ℕ) (i : ℕ) → Bad lent i → FirstWrong piece_finding 8 i (lent_entries lent)
unfolding lent_entries
bad lent i (behind entries rest p n same c) =
    let f = faulty rest c in
    let l : lent_entries lent ≡ as_pieces entries ++ f.piece ∷ f.more =
    rw (same, starts_behind entries rest p f.starts, pieces_front entries rest p, f.left) in
    rw (l, ← n) (first_behind entries f.piece f.more p f.found)
bad lent i (lone z s t) = rw (z, s, t) (record { one = cut; stands = refl; found = refl; earlier = tt })

-- ---- every slice is one or the other

-- a slice starts with a block of entries, or has a first bad one
pub data Look (lent : List ℕ) : Type 0 where
  fine : (entries : List Entry) (rest : List ℕ) → AllPlain entries → lent ≡ block entries ++ rest → Look lent
  poor : (i : ℕ) → Bad lent i → Look lent

-- what a slice starts with: units without NUL up to its end, or up to a NUL
data Start (xs : List ℕ) : Type 0 where
  unclosed : Clean xs → Start xs
  closed : (a rest : List ℕ) → Clean a → xs ≡ a ++ nul ∷ rest → Start xs

start : (xs : List ℕ) → Start xs
start [] = unclosed refl
start (x ∷ xs) = go (is_nul x) refl (start xs)
  where
    go : (b : Bool) → is_nul x ≡ b → Start xs → Start (x ∷ xs)
    go true e s = let z : x ≡ 0 = eqb-true x 0 e in closed [] xs refl (rw z)
    go false e (unclosed h) = unclosed (rw e h)
    go false e (closed a rest h same) = closed (x ∷ a) rest (rw e h) (rw same)

-- entries up to a final NUL, or up to where none is
data Course (xs : List ℕ) : Type 0 where
  ends : (entries : List Entry) (rest : List ℕ) → AllPlain entries → xs ≡ entry_units entries ++ nul ∷ rest → Course xs
  stops : (entries : List Entry) (rest : List ℕ) → AllPlain entries → xs ≡ entry_units entries ++ rest → Cause rest → Course xs

entry_more : (xs rest : List ℕ) (e : Entry) → Plain e → xs ≡ text_of e ++ nul ∷ rest → Course rest → Course xs
entry_more xs rest e p same (ends es more h f) =
    ends (e ∷ es) more (p, h) (same ∙ ap (λ (l : List ℕ). text_of e ++ nul ∷ l) f ∙ sym (first_units e es (nul ∷ more)))
entry_more xs rest e p same (stops es more h f c) =
    stops (e ∷ es) more (p, h) (same ∙ ap (λ (l : List ℕ). text_of e ++ nul ∷ l) f ∙ sym (first_units e es more)) c

-- by the pieces, so that the rest of a slice is less than the slice
course : (ps : List (Lent (List ℕ))) (xs : List ℕ) → pieces xs ≡ ps → Course xs
unfolding entry_units
course [] xs e = go (start xs)
  where
    go : Start xs → Course xs
    go (unclosed h) = stops [] xs tt refl (runs h)
    go (closed a rest h same) =
        let f : pieces xs ≡ whole a ∷ pieces rest = rw same (piece_ended a rest h) in
        let z : ◌≡◌ {A = ℕ} 0 1 = cc in
        absurd (omega arith)
course (p ∷ more) xs e = go (start xs) (course more)
  where
    split : (y : ℕ) (ys rest : List ℕ) → Clean (y ∷ ys) → xs ≡ (y ∷ ys) ++ nul ∷ rest → (b : Bool) → any is_equals ys ≡ b → Course rest → Course xs
    split y ys rest h same true s next =
        let q = split_is y ys h s in
        entry_more xs rest (split_of (y ∷ ys)) q.plain (same ∙ ap (λ (l : List ℕ). l ++ nul ∷ rest) q.text) next
    split y ys rest h same false s next = stops [] xs tt refl (unsplit (y ∷ ys) rest same h refl s)

    go : Start xs → ((rest : List ℕ) → pieces rest ≡ more → Course rest) → Course xs
    go (unclosed h) next = stops [] xs tt refl (runs h)
    go (closed [] rest h same) next = ends [] rest tt same
    go (closed (y ∷ ys) rest h same) next =
        let f : pieces xs ≡ whole (y ∷ ys) ∷ pieces rest = rw same (piece_ended (y ∷ ys) rest h) in
        let n : pieces rest ≡ more = cc in
        split y ys rest h same (any is_equals ys) refl (next rest n)

-- it is one of the two
pub look : (lent : List ℕ) → Look lent
unfolding block entry_units
look lent = go (starts_with_nul lent) refl
  where
    none : (xs : List ℕ) → starts_with_nul xs ≡ true → (b : Bool) → starts_with_nul (drop 1 xs) ≡ b → Look xs
    none [] s b t = clash false s refl
    none (x ∷ xs) s false t = poor 0 (lone refl s t)
    none (x ∷ []) s true t = clash false t refl
    none (x ∷ y ∷ ys) s true t = let z : x ≡ 0 = eqb-true x 0 s in let w : y ≡ 0 = eqb-true y 0 t in fine [] ys tt (rw (z, w))

    some : Course lent → starts_with_nul lent ≡ false → Look lent
    some (ends [] rest p same) s = clash (starts_with_nul lent) (ap starts_with_nul same) s
    some (ends (e ∷ es) rest p same) s = fine (e ∷ es) rest p (same ∙ sym (block_front e es rest))
    some (stops es rest p same c) s = poor (length es) (behind es rest p refl same c)

    go : (b : Bool) → starts_with_nul lent ≡ b → Look lent
    go true s = none lent s (starts_with_nul (drop 1 lent)) refl
    go false s = some (course (pieces lent) lent refl) s

-- ---- exactly so

-- no entry is bad, or one is the first
not_both : {B : Type 0} (lent : List ℕ) (i : ℕ) → Sound piece_finding (lent_entries lent) → FirstWrong piece_finding 8 i (lent_entries lent) → B
not_both lent i s w =
    never {number = 8} {place = i + 1}
    (sym ((all_sound piece_finding (lent_entries lent)).1 s) ∙ (first_wrong piece_finding 8 i (lent_entries lent)).1 w)

-- entry i is found bad exactly by one of the causes
pub bad_exactly : (lent : List ℕ) (i : ℕ) → FirstWrong piece_finding 8 i (lent_entries lent) ↔ Bad lent i
bad_exactly lent i = (λ w. go (look lent) w, bad lent i)
  where
    go : Look lent → FirstWrong piece_finding 8 i (lent_entries lent) → Bad lent i
    go (fine es rest p same) w = not_both lent i (good lent es rest p same).sound w
    go (poor j b) w =
        let here = (first_wrong piece_finding 8 i (lent_entries lent)).1 w in
        let there = (first_wrong piece_finding 8 j (lent_entries lent)).1 (bad lent j b) in
        let places : i + 1 ≡ j + 1 = cc in
        let index : j ≡ i = omega arith in
        rw (← index) b

-- where none is bad, the slice is the block of its entries and a rest
pub record Rebuilt (lent : List ℕ) : Type 0 where
  pub rest : List ℕ
  pub same : lent ≡ block (entries_read lent) ++ rest
  pub plain : AllPlain (entries_read lent)

pub rebuilt : (lent : List ℕ) → Sound piece_finding (lent_entries lent) → Rebuilt lent
rebuilt lent s = go (look lent)
  where
    go : Look lent → Rebuilt lent
    go (fine es rest p same) = let g = (good lent es rest p same).gives in record { rest = rest; same = rw g same; plain = rw g p }
    go (poor j b) = not_both lent j s (bad lent j b)
