-- When a block that is read is refused, and when its entries are given. Assumes nothing.
-- "A slice over 65,535 units is refusal 2, tested first. New refusal 8, with the number of the first bad entry counted from 1 as its place .. Then 3, if the
-- table has under two places for each entry."
use Rattle.std.specs.Prelude.{ℕ, ◌+◌, ◌*◌, ◌≤◌, ◌<◌, ◌≡◌, ◌↔◌, true, false, length, drop}
use Rattle.std.proofs.Math.Path.{refl}
use mathlib.Core.List.{List, [], ◌∷◌, ◌++◌}
use Rattle.rules.specs.Choice.{is_empty}
use Rattle.rules.specs.Unit.{nul}
use Rattle.rules.specs.Outcome.{Outcome, done, refused}
use Rattle.rules.specs.Record.{Entry}
use Rattle.rules.specs.Reading.{places_of}
use Rattle.rules.specs.Block.{entry_units, block_limit}
use Rattle.rules.specs.BlockReading.{starts_with_nul, splits, piece_finding, lent_entries, entries_read, block_reading}
use Rattle.laws.specs.Nul.{Clean}
use Rattle.laws.specs.Fault.{Sound}
use Rattle.laws.specs.Order.{◌and◌, given, unnumbered, Step, most, search_all, only, accepted, refused_most, refused_search}
use Rattle.laws.specs.Entry.{AllPlain}
use Rattle.laws.specs.Pieces.{piece_finds}
use Rattle.laws.specs.BadEntry.{Bad, behind, lone, runs, unsplit, bad_exactly}

module _ (lent : List ℕ) (numbers : ℕ) where
  -- what reading comes to
  abbrev read : Outcome (List Entry)
  read = block_reading lent numbers

  -- the entries
  abbrev entries : List Entry
  entries = entries_read lent

  -- no entry of the slice is bad
  abbrev pub NoneBad : Type 0
  NoneBad = Sound piece_finding (lent_entries lent)

  -- ---- the steps of the order

  -- 2 for the slice
  abbrev two : Step
  two = most 2 block_limit (length lent)

  -- 8 entry by entry
  abbrev eight : Step
  eight = search_all (8 ∷ []) piece_finding piece_finds (lent_entries lent)

  -- 3 for the table
  abbrev three : Step
  three = most 3 (places_of numbers) (2 * length entries)

  -- ---- exactly when

  -- only 2 and 3 are given at place 0, only 8 at an entry's place
  pub entries_only : (number place : ℕ) → read ≡ refused number place → given (2 ∷ 3 ∷ []) (8 ∷ []) number place ≡ true
  unfolding block_reading
  entries_only number place e = only entries (two ∷ eight ∷ three ∷ []) number place e

  -- 2: the slice has more units than the limit
  pub entries_length : (read ≡ refused 2 0) ↔ (block_limit < length lent)
  unfolding block_reading
  entries_length = refused_most entries 2 [] _ _ (eight ∷ three ∷ []) refl refl

  -- 8 at place i + 1: entry i is the first bad one, by one of its causes
  pub entries_bad : (i : ℕ) → (read ≡ refused 8 (i + 1)) ↔ ((length lent ≤ block_limit) and Bad lent i)
  unfolding block_reading
  entries_bad i =
      let (to, from) = refused_search entries 8 i (two ∷ []) piece_finding (lent_entries lent) (three ∷ []) refl refl in
      let (why, so) = bad_exactly lent i in
      (λ e. let (short, w) = to e in (short, why w), λ h. from (h.0, so h.1))

  -- 3: no entry is bad, and the table has under two places for each
  pub entries_places : (read ≡ refused 3 0) ↔ ((length lent ≤ block_limit) and NoneBad and (places_of numbers < 2 * length entries))
  unfolding block_reading
  entries_places = refused_most entries 3 (two ∷ eight ∷ []) _ _ [] refl refl

  -- the entries are given where nothing of this applies
  pub entries_given : (result : List Entry) → (read ≡ done result)
      ↔ ((length lent ≤ block_limit) and NoneBad and (2 * length entries ≤ places_of numbers) and (entries ≡ result))
  unfolding block_reading
  entries_given result = accepted entries (two ∷ eight ∷ three ∷ []) result

  -- no refusal has the number 0
  pub entries_numbered : (place : ℕ) → ¬ (read ≡ refused 0 place)
  entries_numbered place e = unnumbered (2 ∷ 3 ∷ []) (8 ∷ []) place refl refl (entries_only 0 place e)

  -- what is given is what is read, and the table has two places for each
  pub entries_whole : (result : List Entry) → read ≡ done result → (2 * length result ≤ places_of numbers) × (entries ≡ result)
  entries_whole result e = let (_, (_, (wide, made))) = (entries_given result).0 e in (rw (← made) wide, made)

  -- ---- 8 by each of its causes

  -- good entries stand in front, and this behind them
  abbrev pub BehindGood : List Entry → List ℕ → Type 0
  BehindGood front rest = (length lent ≤ block_limit) and AllPlain front and (lent ≡ entry_units front ++ rest)

  -- "an entry, or the final NUL, runs into the end of the slice": behind good entries there is no NUL
  pub entries_cut : (front : List Entry) (rest : List ℕ) → BehindGood front rest → Clean rest → read ≡ refused 8 (length front + 1)
  entries_cut front rest (short, (plain, same)) clean = (entries_bad (length front)).1 (short, behind front rest plain refl same (runs clean))

  -- "an entry has no such `=`": behind good entries stand units that a NUL ends and that do not split
  pub entries_unsplit : (front : List Entry) (entry rest : List ℕ) → BehindGood front (entry ++ nul ∷ rest) → Clean entry → is_empty entry ≡ false
      → splits entry ≡ false → read ≡ refused 8 (length front + 1)
  entries_unsplit front entry rest (short, (plain, same)) clean some whole =
      (entries_bad (length front)).1 (short, behind front (entry ++ nul ∷ rest) plain refl same (unsplit entry rest refl clean some whole))

  -- "the first unit is NUL and the second isn't there or isn't NUL (place 1)"
  pub entries_lone : length lent ≤ block_limit → starts_with_nul lent ≡ true → starts_with_nul (drop 1 lent) ≡ false → read ≡ refused 8 1
  entries_lone short first second = (entries_bad 0).1 (short, lone refl first second)
