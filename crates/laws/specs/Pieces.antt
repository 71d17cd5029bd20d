-- The pieces of a slice that starts with a written block: none is bad, and they split into the block's entries. Assumes nothing.
use Rattle.std.specs.Prelude.{ℕ, ◌≡◌, refl, true, false, List, [], ◌∷◌, ◌++◌, map}
use Rattle.std.proofs.Common.{ap, ◌∙◌, append_assoc, append-nil}
use Rattle.rules.specs.Choice.{flip, any, is_empty}
use Rattle.rules.specs.Unit.{is_nul, nul}
use Rattle.rules.specs.Record.{Lent, whole, cut, wholes, Entry}
use Rattle.rules.specs.Block.{block, entry_units}
use Rattle.rules.specs.BlockReading.{longer, pieces, before_final, lent_entries, starts_with_nul, splits, split_of, piece_finding, entries_read}
use Rattle.laws.specs.Choice.{apart}
use Rattle.laws.specs.Nul.{Clean}
use Rattle.laws.specs.Fault.{Finds, Sound, found_once}
use Rattle.laws.specs.Entry.{Plain, AllPlain, text_of, reads, first_units}

-- ---- pieces

-- units without NUL in front of a NUL are a piece
pub piece_ended : (a rest : List ℕ) → Clean a → pieces (a ++ nul ∷ rest) ≡ whole a ∷ pieces rest
unfolding pieces longer
piece_ended [] rest h = refl
piece_ended (x ∷ a) rest h = let (e, h') = apart true (is_nul x) (any is_nul a) h in rw (e, piece_ended a rest h')

-- units without NUL at the end of the slice are cut
pub piece_cut : (xs : List ℕ) → Clean xs → pieces xs ≡ cut ∷ []
unfolding pieces longer
piece_cut [] h = refl
piece_cut (x ∷ xs) h = let (e, h') = apart true (is_nul x) (any is_nul xs) h in rw (e, piece_cut xs h')

pub before_final_lem : (a : List ℕ) (more : List (Lent (List ℕ))) → is_empty a ≡ false → before_final (whole a ∷ more) ≡ whole a ∷ before_final more
unfolding before_final
before_final_lem [] more h = cc
before_final_lem (x ∷ a) more h = refl

-- a piece is found wrong by 8 alone
pub piece_finds : Finds (8 ∷ []) piece_finding
piece_finds number (whole a) e = found_once 8 (flip (splits a)) number e
piece_finds number cut e = let same : number ≡ 8 = cc in rw same

-- ---- good entries in front

-- the pieces that entries are
abbrev pub as_pieces : List Entry → List (Lent (List ℕ))
as_pieces [] = []
as_pieces (e ∷ more) = whole (text_of e) ∷ as_pieces more

-- the pieces of entries in front of anything
pub pieces_front : (entries : List Entry) (rest : List ℕ) → AllPlain entries
    → before_final (pieces (entry_units entries ++ rest)) ≡ as_pieces entries ++ before_final (pieces rest)
unfolding entry_units
pieces_front [] rest h = refl
pieces_front (e ∷ more) rest h =
    let r = reads e h.0 in
    rw (
      first_units e more rest,
      piece_ended (text_of e) (entry_units more ++ rest) r.clean,
      before_final_lem (text_of e) (pieces (entry_units more ++ rest)) r.filled,
      pieces_front more rest h.1,
    )

-- none of them is bad
pub sound_pieces : (entries : List Entry) → AllPlain entries → Sound piece_finding (as_pieces entries)
sound_pieces [] h = tt
sound_pieces (e ∷ more) h = (rw (reads e h.0).split, sound_pieces more h.1)

-- and they split into the entries
split_pieces : (entries : List Entry) → AllPlain entries → map split_of (wholes (as_pieces entries)) ≡ entries
unfolding wholes
split_pieces [] h = refl
split_pieces (e ∷ more) h = rw ((reads e h.0).same, split_pieces more h.1)

-- what starts with units without NUL does not start with NUL
pub starts_clean : (a more : List ℕ) → is_empty a ≡ false → Clean a → starts_with_nul (a ++ more) ≡ false
starts_clean [] more f c = cc
starts_clean (x ∷ a) more f c = (apart true (is_nul x) (any is_nul a) c).0

-- nor does what starts with an entry
pub starts_entry : (e : Entry) (more : List Entry) (rest : List ℕ) → Plain e → starts_with_nul (entry_units (e ∷ more) ++ rest) ≡ false
starts_entry e more rest p =
    let r = reads e p in
    ap starts_with_nul (first_units e more rest) ∙ starts_clean (text_of e) (nul ∷ (entry_units more ++ rest)) r.filled r.clean

-- ---- a block of entries, whatever stands behind it

-- behind entries stands the final NUL
pub block_front : (e : Entry) (more : List Entry) (rest : List ℕ) → block (e ∷ more) ++ rest ≡ entry_units (e ∷ more) ++ nul ∷ rest
unfolding block
block_front e more rest = append_assoc (entry_units (e ∷ more)) (nul ∷ []) rest

final_left : (rest : List ℕ) → before_final (pieces (nul ∷ rest)) ≡ []
unfolding pieces before_final
final_left rest = refl

block_pieces : (entries : List Entry) (rest : List ℕ) → AllPlain entries → lent_entries (block entries ++ rest) ≡ as_pieces entries
unfolding lent_entries block
block_pieces [] rest h = refl
block_pieces (e ∷ more) rest h =
    rw (
      block_front e more rest,
      starts_entry e more (nul ∷ rest) h.0,
      pieces_front (e ∷ more) (nul ∷ rest) h,
      final_left rest,
      append-nil (as_pieces more),
    )

-- in a slice that starts with a block no entry is bad, and its entries are the block's
pub record Good (lent : List ℕ) (entries : List Entry) : Type 0 where
  pub sound : Sound piece_finding (lent_entries lent)
  pub gives : entries_read lent ≡ entries

pub good : (lent : List ℕ) (entries : List Entry) (rest : List ℕ) → AllPlain entries → lent ≡ block entries ++ rest → Good lent entries
unfolding entries_read
good lent entries rest p same =
    let l : lent_entries lent ≡ as_pieces entries = rw same (block_pieces entries rest p) in
    record { sound = rw l (sound_pieces entries p); gives = rw l (split_pieces entries p) }
