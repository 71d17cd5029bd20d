-- When an environment block is refused, and when it is built. Assumes nothing.
-- "Environment entries: 1 over all; then entry by entry, key before value, 5; then 2; then 4."
use Rattle.std.specs.Prelude.{ℕ, ◌+◌, ◌≤◌, ◌<◌, ◌≡◌, ◌↔◌, true, length}
use Rattle.std.proofs.Math.Path.{refl}
use mathlib.Core.List.{List, [], ◌∷◌}
use Rattle.rules.specs.Outcome.{Outcome, done, refused}
use Rattle.rules.specs.Record.{Entry, judged, entry_finding, entry_records, entry_fault, entries_of}
use Rattle.rules.specs.Block.{block, block_limit, entry_nul_finding, environment_block}
use Rattle.laws.specs.Fault.{Sound, FirstWrong}
use Rattle.laws.specs.Finding.{entry_finds, entry_nul_finds}
use Rattle.laws.specs.Order.{◌and◌, given, unnumbered, Step, most, search_all, only, accepted, refused_most, refused_search}
use Rattle.promises.specs.Records.{SoundEntries, FirstWrongEntry}

module _ (records text : List ℕ) (room : ℕ) where
  -- what building comes to
  abbrev built : Outcome (List ℕ)
  built = environment_block records text room

  -- the entries
  abbrev entries : List Entry
  entries = entries_of text records

  -- the whole block
  abbrev whole : List ℕ
  whole = block entries

  -- ---- the steps of the order

  -- 1 over all records
  abbrev one : Step
  one = search_all (1 ∷ []) (judged (entry_finding text)) (entry_finds text) (entry_records records)

  -- 5 entry by entry
  abbrev nuls : Step
  nuls = search_all (5 ∷ []) entry_nul_finding entry_nul_finds entries

  -- 2 for the whole block
  abbrev two : Step
  two = most 2 block_limit (length whole)

  -- 4 for the whole block
  abbrev four : Step
  four = most 4 room (length whole)

  -- ---- exactly when

  -- only 2 and 4 are given at place 0, only 1 and 5 at a record's place
  pub block_only : (number place : ℕ) → built ≡ refused number place → given (2 ∷ 4 ∷ []) (1 ∷ 5 ∷ []) number place ≡ true
  unfolding environment_block entry_fault
  block_only number place e = only whole (one ∷ nuls ∷ two ∷ four ∷ []) number place e

  -- 1 at place i + 1: record i is the first at fault
  pub block_record : (i : ℕ) → (built ≡ refused 1 (i + 1)) ↔ FirstWrongEntry text records i
  unfolding environment_block entry_fault
  block_record i = refused_search whole 1 i [] _ _ (nuls ∷ two ∷ four ∷ []) refl refl

  -- 5 at place i + 1: entry i is the first with a NUL in its key or value
  pub block_entry : (i : ℕ) → (built ≡ refused 5 (i + 1)) ↔ (SoundEntries text records and FirstWrong entry_nul_finding 5 i entries)
  unfolding environment_block entry_fault
  block_entry i = refused_search whole 5 i (one ∷ []) _ _ (two ∷ four ∷ []) refl refl

  -- 2: the block has more units than the limit
  pub block_length : (built ≡ refused 2 0) ↔ (SoundEntries text records and Sound entry_nul_finding entries and (block_limit < length whole))
  unfolding environment_block entry_fault
  block_length = refused_most whole 2 (one ∷ nuls ∷ []) _ _ (four ∷ []) refl refl

  -- 4: the output has fewer units than the block
  pub block_room : (built ≡ refused 4 0)
      ↔ (SoundEntries text records and Sound entry_nul_finding entries and (length whole ≤ block_limit) and (room < length whole))
  unfolding environment_block entry_fault
  block_room = refused_most whole 4 (one ∷ nuls ∷ two ∷ []) _ _ [] refl refl

  -- the block is built where nothing of this applies
  pub block_built : (result : List ℕ) → (built ≡ done result)
      ↔ (SoundEntries text records and Sound entry_nul_finding entries and (length whole ≤ block_limit) and (length whole ≤ room) and (whole ≡ result))
  unfolding environment_block entry_fault
  block_built result = accepted whole (one ∷ nuls ∷ two ∷ four ∷ []) result

  -- no refusal has the number 0
  pub block_numbered : (place : ℕ) → ¬ (built ≡ refused 0 place)
  block_numbered place e = unnumbered (2 ∷ 4 ∷ []) (1 ∷ 5 ∷ []) place refl refl (block_only 0 place e)

  -- what is built is the whole, and the output has room for it
  pub block_whole : (result : List ℕ) → built ≡ done result → (length result ≤ room) × (whole ≡ result)
  block_whole result e = let (_, (_, (_, (fits, made)))) = (block_built result).0 e in (rw (← made) fits, made)
