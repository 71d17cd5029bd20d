-- The first record at fault, by the index at which a test first holds. Assumes nothing.
use Prim.Native.Nat.{ℕ, suc, ◌+◌, ◌*◌, ◌/◌, ◌<◌}
use native.Mathlib.Omega.{arith}
use mathlib.Core.Path.{◌≡◌, refl, sym, ap, ◌∙◌}
use mathlib.Core.Bool.{Bool, true, false, cond}
use mathlib.Core.List.{List, [], ◌∷◌, ◌++◌, map}
use lib.ListN.{length, length-drop}
use Rattle.std.proofs.Common.{append-nil}
use Rattle.std.proofs.lemmas.Iterator.Adapters.{position_from-zero}
use Rattle.std.specs.Prelude.{Option, None, Some}
use Rattle.std.specs.List.{position, position_from}
use Rattle.std.specs.Option.{option_map}
use Rattle.rules.specs.Choice.{either, any}
use Rattle.rules.specs.Unit.{is_nul}
use Rattle.rules.specs.Outcome.{Finding, sound, wrong, wrong_if, Fault, faultless, fault, fault_from, first_fault}
use Rattle.rules.specs.Record.{judged, entry_finding, entry_fault, entries_of, entry_records}
use Rattle.rules.specs.Block.{entry_nul_finding}
use Rattle.blocks.specs.Entries.{numbered, is_outside, has_nul, fault_if}
use Rattle.blocks.proofs.Flat.{fours, behind_fours, whole_of, named, all_records, none_behind, cut_behind, all_entries}

-- a fault at the record of the index found; where none was found, what follows decides
abbrev pub found_or : ℕ → Option ℕ → Fault → Fault
found_or number None more = more
found_or number (Some i) more = fault number (i + 1)

-- its place is the index plus 1
pub place_told : (number : ℕ) (found : Option ℕ) → found_or number found faultless ≡ fault_if number (option_map (λ i. i + 1) found)
place_told number None = refl
place_told number (Some i) = refl

module _ {A : Type 0} (find : A → Finding) (number : ℕ) (made : List ℕ → A) (test : List ℕ → Bool) (finds : (c : List ℕ) → find (made c) ≡ wrong_if number (test c) sound) where
  met_from : (i : ℕ) (all : List (List ℕ)) (rest : List A)
      → fault_from find (i + 1) (map made all ++ rest) ≡ found_or number (position_from test i all) (fault_from find (length all + i + 1) rest)
  unfolding fault_from
  met_from i [] rest = let n : 0 + i + 1 ≡ i + 1 = omega arith in rw n
  met_from i (c ∷ all) rest = rw (finds c) (go (test c) (met_from (i + 1) all rest))
    where
      go : (b : Bool)
          → fault_from find (i + 1 + 1) (map made all ++ rest) ≡ found_or number (position_from test (i + 1) all) (fault_from find (length all + (i + 1) + 1) rest)
          → Rattle.rules.specs.Outcome.fault_at (i + 1) (wrong_if number b sound) (fault_from find (i + 1 + 1) (map made all ++ rest))
          ≡ found_or number (cond b (Some i) (position_from test (i + 1) all)) (fault_from find (suc (length all) + i + 1) rest)
      go true h = refl
      go false h = let n : length all + (i + 1) + 1 ≡ suc (length all) + i + 1 = omega arith in rw n at h

  -- the first fault of a list is that of the first element that the test holds of
  pub first_met : (all : List (List ℕ)) (rest : List A) (found : Option ℕ) → found ≡ position test all
      → first_fault find (map made all ++ rest) ≡ found_or number found (fault_from find (length all + 1) rest)
  first_met all rest found e =
      let n : length all + 0 + 1 ≡ length all + 1 = omega arith in
      (rw n at (met_from 0 all rest)) ∙ rw (e, position_from-zero test all)

-- ---- 1

module _ (text records : List ℕ) where
  -- the key or the value exceeds the text
  abbrev pub exceeding : List ℕ → Bool
  exceeding numbers = is_outside text (numbered numbers)

  pub outside_first : (found : Option ℕ) → found ≡ position exceeding (fours records)
      → entry_fault text records ≡ found_or 1 found (fault_from (judged (entry_finding text)) (length (fours records) + 1) (entry_records (behind_fours records)))
  unfolding entry_fault
  outside_first found e = rw (all_records records) (first_met (judged (entry_finding text)) 1 whole_of exceeding (λ c. refl) (fours records) (entry_records (behind_fours records)) found e)

  module _ (none : position exceeding (fours records) ≡ None) (rest : List ℕ) (behind : rest ≡ behind_fours records) where
    all_within : entry_fault text records ≡ fault_from (judged (entry_finding text)) (length (fours records) + 1) (entry_records rest)
    all_within = outside_first None (sym none) ∙ rw behind

    -- no record exceeds it
    pub none_outside : length rest ≡ 0 → entry_fault text records ≡ faultless
    unfolding fault_from
    none_outside z = all_within ∙ rw (none_behind rest z)

    -- none does but the last, which is cut
    pub cut_outside : ¬ (length rest ≡ 0) → entry_fault text records ≡ fault 1 (length (fours records) + 1)
    unfolding fault_from
    cut_outside nz =
        let l : length rest < 4 = omega (arith, length-drop (length records / 4 * 4) records, ap length behind) in
        all_within ∙ rw (cut_behind rest nz l)

  -- ---- 5

  -- the key or the value has a NUL
  abbrev pub with_nul : List ℕ → Bool
  with_nul numbers = has_nul (named text numbers)

  both_tests : (k v : Bool) → wrong_if 5 k (wrong_if 5 v sound) ≡ wrong_if 5 (either k v) sound
  both_tests true v = refl
  both_tests false v = refl

  finds_nul : (numbers : List ℕ) → entry_nul_finding (named text numbers) ≡ wrong_if 5 (with_nul numbers) sound
  finds_nul numbers = both_tests (any is_nul (named text numbers).key) (any is_nul (named text numbers).value)

  pub nul_first : (found : Option ℕ) → found ≡ position with_nul (fours records)
      → first_fault entry_nul_finding (entries_of text records) ≡ found_or 5 found faultless
  unfolding fault_from
  nul_first found e =
      let h = first_met entry_nul_finding 5 (named text) with_nul finds_nul (fours records) [] found e in
      rw (all_entries text records) (rw append-nil at h)
