-- Blocks both ways: what was written is read back, and what was read is written again; how many entries there can be. Assumes nothing.
use Rattle.std.specs.Prelude.{ℕ, zero, suc, ◌+◌, ◌*◌, ◌≤◌, ◌≡◌, refl, List, [], ◌∷◌, ◌++◌, length, take}
use Rattle.std.proofs.Common.{arith, sym, ap, ◌∙◌, append-nil, length-append}
use Rattle.rules.specs.Outcome.{done, refused, filled}
use Rattle.rules.specs.Record.{Entry, entries_of}
use Rattle.rules.specs.Reading.{places_of}
use Rattle.rules.specs.Block.{block, block_limit, environment_block}
use Rattle.rules.specs.BlockReading.{entry_sizes, units_used, entry_spans, entries_read, block_reading}
use Rattle.rules.specs.Answer.{outcome_entry_spans}
use Rattle.laws.specs.Front.{over_front}
use Rattle.laws.specs.Entry.{AllPlain, units_used_lem, plain_used}
use Rattle.laws.specs.Pieces.{good}
use Rattle.laws.specs.BadEntry.{rebuilt}
use Rattle.laws.specs.EntrySpans.{spans_build, entry_spans_length}
use Rattle.promises.specs.Block.{block_built}
use Rattle.promises.specs.BlockReading.{entries_given, entries_places}

-- ---- as written, so read

-- "entries whose keys are non-empty and have no `=` after the first unit, all without NUL, read back as written", whatever stands behind their block
pub read_as_written : (records text : List ℕ) (room : ℕ) (built rest : List ℕ) (numbers : ℕ) → environment_block records text room ≡ done built
    → AllPlain (entries_of text records) → length (built ++ rest) ≤ block_limit → 2 * length (entries_of text records) ≤ places_of numbers
    → block_reading (built ++ rest) numbers ≡ done (entries_of text records)
read_as_written records text room built rest numbers e plain short wide =
    let (_, (_, (_, (_, same)))) = (block_built records text room built).0 e in
    let entries = entries_of text records in
    let g = good (built ++ rest) entries rest plain (ap (λ (l : List ℕ). l ++ rest) (sym same)) in
    (entries_given (built ++ rest) numbers entries).1 (short, (g.sound, (rw g.gives wide, g.gives)))

-- the block alone is short enough, because it was built
pub read_back : (records text : List ℕ) (room : ℕ) (built : List ℕ) (numbers : ℕ) → environment_block records text room ≡ done built
    → AllPlain (entries_of text records) → 2 * length (entries_of text records) ≤ places_of numbers → block_reading built numbers ≡ done (entries_of text records)
read_back records text room built numbers e plain wide =
    let (_, (_, (short, (_, same)))) = (block_built records text room built).0 e in
    let n : built ++ [] ≡ built = append-nil built in
    rw n at (read_as_written records text room built [] numbers e plain (rw (n, ← same) short) wide)

-- ---- as read, so written

module _ (lent : List ℕ) (numbers : ℕ) (result : List Entry) (e : block_reading lent numbers ≡ done result) where
  -- what is read are such entries
  pub read_plain : AllPlain result
  read_plain = let (_, (s, (_, same))) = (entries_given lent numbers result).0 e in rw (← same) (rebuilt lent s).plain

  -- the slice is the block of what is read, and the rest that is ignored
  pub read_block : (rest : List ℕ) × (lent ≡ block result ++ rest)
  read_block =
      let (_, (s, (_, same))) = (entries_given lent numbers result).0 e in
      let r = rebuilt lent s in
      (r.rest, r.same ∙ ap (λ (es : List Entry). block es ++ r.rest) same)

  -- the units used are in the slice
  pub used_within : units_used result ≤ length lent
  used_within =
      let (rest, same) = read_block in
      let l : length lent ≡ length (block result) + length rest = ap length same ∙ length-append (block result) rest in
      omega (arith, units_used_lem result)

  -- "an accepted block, built again, gives the units used": the spans, lent on as records over the slice
  pub built_again : (room : ℕ) → units_used result ≤ room → environment_block (entry_spans result) lent room ≡ done (take (units_used result) lent)
  built_again room wide =
      let (short, _) = (entries_given lent numbers result).0 e in
      let (rest, same) = read_block in
      spans_build lent rest result room same read_plain short wide

  -- n entries take at least 3n + 1 units: each has at least three with its NUL
  pub entries_bound : 3 * length result + 1 ≤ length lent
  entries_bound = omega (arith, used_within, plain_used result read_plain)

module _ (lent table : List ℕ) (result : List Entry) (e : block_reading lent (length table) ≡ done result) where
  -- what the table holds after reading
  abbrev after : List ℕ
  after = filled table (outcome_entry_spans (block_reading lent (length table)))

  -- its front holds the spans, four numbers an entry: a record each for `make_envp`
  pub table_holds : take (4 * length result) after ≡ entry_spans result
  table_holds =
      let (_, (_, (wide, same))) = (entries_given lent (length table) result).0 e in
      let w : 2 * length result ≤ places_of (length table) = rw same at wide in
      let n = entry_spans_length 0 result in
      rw (e, ← n) (over_front table (entry_spans result) (omega arith)).front

  -- so that front, lent on as records over the slice, gives the units used
  pub lent_on : (room : ℕ) → units_used result ≤ room → environment_block (take (4 * length result) after) lent room ≡ done (take (units_used result) lent)
  lent_on room wide = rw table_holds (built_again lent (length table) result e room wide)

-- ---- how many entries

-- a slice of at most 3q + 3 units needs no more than 4q numbers
pub table_enough : (lent : List ℕ) (numbers q : ℕ) → length lent ≤ 3 * q + 3 → 4 * q ≤ numbers → ¬ (block_reading lent numbers ≡ refused 3 0)
table_enough lent numbers q short wide e =
    let (_, (s, few)) = (entries_places lent numbers).0 e in
    let r = rebuilt lent s in
    let l : length lent ≡ length (block (entries_read lent)) + length r.rest =
    ap length r.same ∙ length-append (block (entries_read lent)) r.rest in
    omega (arith, plain_used (entries_read lent) r.plain, units_used_lem (entries_read lent))

-- 87,376 numbers are always enough
pub table_always : (lent : List ℕ) (numbers : ℕ) → 87376 ≤ numbers → ¬ (block_reading lent numbers ≡ refused 3 0)
unfolding block_limit
table_always lent numbers wide e = let (short, _) = (entries_places lent numbers).0 e in table_enough lent numbers 21844 (omega arith) wide e

-- n entries `A=`
unfoldable pub least : ℕ → List Entry
least zero = []
least (suc n) = record { key = 65 ∷ []; value = [] } ∷ least n

least_plain : (n : ℕ) → AllPlain (least n)
unfolding least
least_plain zero = tt
least_plain (suc n) = (record { some = refl; once = refl; key_clean = refl; value_clean = refl }, least_plain n)

least_count : (n : ℕ) → length (least n) ≡ n
unfolding least
least_count zero = refl
least_count (suc n) = ap suc (least_count n)

least_sizes : (n : ℕ) → entry_sizes (least n) ≡ 3 * n
unfolding least
least_sizes zero = refl
least_sizes (suc n) = omega (arith, least_sizes n)

-- the bound is met: n + 1 entries `A=` take 3(n + 1) + 1 units, and n + 1 entries are read
pub bound_met : (n : ℕ) → (length (block (least (suc n))) ≡ 3 * suc n + 1) × (length (entries_read (block (least (suc n)))) ≡ suc n)
unfolding least
bound_met n = (
  sym (units_used_lem (least (suc n))) ∙ ap (λ (m : ℕ). m + 1) (least_sizes (suc n)),
  rw (good (block (least (suc n))) (least (suc n)) [] (least_plain (suc n)) (sym (append-nil (block (least (suc n)))))).gives (least_count (suc n)),
)
