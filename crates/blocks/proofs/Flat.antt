-- The records of a flat list, by the fours of its numbers. Assumes nothing.
use Prim.Native.Nat.{ℕ, zero, suc, ◌+◌, ◌*◌, ◌/◌, ◌≤◌, ◌<◌}
use native.Mathlib.Omega.{arith}
use mathlib.Core.Path.{◌≡◌, refl, ap}
use mathlib.Core.List.{List, [], ◌∷◌, ◌++◌, map}
use lib.ListN.{length, get_or, drop, drop_of_length-le}
use Rattle.std.proofs.Common.{add-one, drop-cons}
use Rattle.std.specs.Simd.{first_chunks}
use Rattle.rules.specs.Record.{Lent, whole, cut, wholes, EntryRecord, entry_records, Entry, entry_of, entries_of}
use Rattle.blocks.specs.Entries.{numbered}

-- the numbers of the whole records
abbrev pub fours : List ℕ → List (List ℕ)
fours records = first_chunks 4 (length records / 4) records

-- the numbers behind them
abbrev pub behind_fours : List ℕ → List ℕ
behind_fours records = drop (length records / 4 * 4) records

-- a whole record, by its numbers
abbrev pub whole_of : List ℕ → Lent EntryRecord
whole_of numbers = whole (numbered numbers)

by_fours : (k : ℕ) (records : List ℕ) → k * 4 ≤ length records
    → entry_records records ≡ map whole_of (first_chunks 4 k records) ++ entry_records (drop (k * 4) records)
unfolding entry_records
by_fours zero records h = refl
by_fours (suc k) [] h = absurd (omega arith)
by_fours (suc k) (a ∷ []) h = absurd (omega arith)
by_fours (suc k) (a ∷ b ∷ []) h = absurd (omega arith)
by_fours (suc k) (a ∷ b ∷ c ∷ []) h = absurd (omega arith)
by_fours (suc k) (a ∷ b ∷ c ∷ d ∷ more) h =
    let n : suc k * 4 ≡ suc (suc (suc (suc (k * 4)))) = omega arith in
    rw n (ap (λ (l : List (Lent EntryRecord)). whole_of (a ∷ b ∷ c ∷ d ∷ []) ∷ l) (by_fours k more (omega arith)))

-- the list is its whole records, and what is behind them
pub all_records : (records : List ℕ) → entry_records records ≡ map whole_of (fours records) ++ entry_records (behind_fours records)
all_records records = by_fours (length records / 4) records (omega arith)

-- nothing is behind them, or a cut record
pub none_behind : (rest : List ℕ) → length rest ≡ 0 → entry_records rest ≡ []
unfolding entry_records
none_behind [] h = refl
none_behind (a ∷ rest) h = absurd (omega arith)

pub cut_behind : (rest : List ℕ) → ¬ (length rest ≡ 0) → length rest < 4 → entry_records rest ≡ cut ∷ []
unfolding entry_records
cut_behind [] h l = absurd (h refl)
cut_behind (a ∷ []) h l = refl
cut_behind (a ∷ b ∷ []) h l = refl
cut_behind (a ∷ b ∷ c ∷ []) h l = refl
cut_behind (a ∷ b ∷ c ∷ d ∷ rest) h l = absurd (omega arith)

-- ---- entries

-- the entry that a record's numbers name
abbrev pub named : List ℕ → List ℕ → Entry
named text numbers = entry_of text (numbered numbers)

none_whole : (text rest : List ℕ) → length rest < 4 → entries_of text rest ≡ []
unfolding entries_of entry_records wholes
none_whole text [] h = refl
none_whole text (a ∷ []) h = refl
none_whole text (a ∷ b ∷ []) h = refl
none_whole text (a ∷ b ∷ c ∷ []) h = refl
none_whole text (a ∷ b ∷ c ∷ d ∷ rest) h = absurd (omega arith)

entries_by_fours : (text : List ℕ) (k : ℕ) (records : List ℕ) → k * 4 ≤ length records → length records < k * 4 + 4
    → entries_of text records ≡ map (named text) (first_chunks 4 k records)
unfolding entries_of entry_records wholes
entries_by_fours text zero records h l = none_whole text records (omega arith)
entries_by_fours text (suc k) [] h l = absurd (omega arith)
entries_by_fours text (suc k) (a ∷ []) h l = absurd (omega arith)
entries_by_fours text (suc k) (a ∷ b ∷ []) h l = absurd (omega arith)
entries_by_fours text (suc k) (a ∷ b ∷ c ∷ []) h l = absurd (omega arith)
entries_by_fours text (suc k) (a ∷ b ∷ c ∷ d ∷ more) h l =
    ap (λ (l : List Entry). named text (a ∷ b ∷ c ∷ d ∷ []) ∷ l) (entries_by_fours text k more (omega arith) (omega arith))

-- the entries are those of the whole records
pub all_entries : (text records : List ℕ) → entries_of text records ≡ map (named text) (fours records)
all_entries text records = entries_by_fours text (length records / 4) records (omega arith) (omega arith)

-- what is left of the whole records from an index on: an entry, and those behind it
pub next_entry : (text : List ℕ) (numbers : List (List ℕ)) (i : ℕ) {r : EntryRecord} → r ≡ numbered (get_or numbers i []) → i < length numbers
    → map (named text) (drop i numbers) ≡ entry_of text r ∷ map (named text) (drop (i + 1) numbers)
next_entry text numbers i e h = rw (e, add-one i, drop-cons numbers i [] h)

-- or none
pub no_entry : (text : List ℕ) (numbers : List (List ℕ)) (i : ℕ) → length numbers ≤ i → map (named text) (drop i numbers) ≡ []
no_entry text numbers i h = rw (drop_of_length-le numbers h)
