-- The entries of a block, passed one after another. Assumes nothing.
use Prim.Native.Nat.{ℕ, zero, suc, ◌+◌, ◌*◌, ◌≤◌, ◌<◌, zero-le}
use native.Mathlib.Nat.{zero-add}
use native.Mathlib.Numerals.{add-one}
use native.Mathlib.Omega.{arith}
use borrow.Author.Tests.{eqb-true, ne_eqb}
use mathlib.Core.Path.{◌≡◌, refl, sym, ap, ◌∙◌}
use mathlib.Core.Bool.{Bool, true, false}
use mathlib.Core.List.{List, [], ◌∷◌, ◌++◌, map}
use lib.ListN.{length, length-append, get_or, drop, drop_of_length-le}
use lib.Seq.{sets, drop-cons, drop-drop}
use Rattle.rules.specs.Unit.{nul}
use Rattle.rules.specs.Choice.{pick}
use Rattle.rules.specs.Record.{Entry, cut, wholes}
use Rattle.rules.specs.Block.{block, entry_units}
use Rattle.rules.specs.BlockReading.{starts_with_nul, lent_entries, piece_finding, split_of, entries_read, entry_sizes, entry_spans, units_used}
use Rattle.laws.specs.Choice.{clash}
use Rattle.laws.specs.Fault.{first_wrong, all_sound}
use Rattle.laws.specs.Store.{sets_append}
use Rattle.laws.specs.Entry.{AllPlain, text_of, last_units, last_plain, last_sizes, plain_sizes}
use Rattle.laws.specs.Pieces.{block_front, good}
use Rattle.laws.specs.BadEntry.{Cause, runs, Bad, behind, lone, bad}
use Rattle.laws.specs.EntrySpans.{entry_spans_length, last_spans}
use Rattle.entries.specs.Measured.{Stands}
use Rattle.entries.specs.Tallied.{Counted, FirstBad}
use Rattle.std.specs.Prelude.{Result, Ok, Err, OnOk}
use Rattle.rules.specs.declared.Entries.{Entries}
use Rattle.rules.specs.declared.Refusal.TheVariants as Refusal

-- ---- what is passed

-- the good entries up to a place of the block, so many, and their spans in the table
pub record Walking (lent before table : List ℕ) (at count : ℕ) : Type 0 where
  pub entries : List Entry
  pub plain : AllPlain entries
  pub counted : length entries ≡ count
  pub sizes : entry_sizes entries ≡ at
  pub stands : lent ≡ entry_units entries ++ drop at lent
  pub stored : table ≡ sets before 0 (entry_spans entries)

-- at the start there are none
pub none_walked : (lent table : List ℕ) → Walking lent table table 0 0
unfolding entry_units
none_walked lent table = record { entries = []; plain = tt; counted = refl; sizes = refl; stands = refl; stored = refl }

-- no more entries than units
pub walked_few : {lent before table : List ℕ} {at count : ℕ} → Walking lent before table at count → count ≤ at
walked_few p = omega (arith, p.counted, p.sizes, plain_sizes p.entries p.plain)

-- an entry lies in the rest
pub stands_inside : {rest : List ℕ} {key value : ℕ} → Stands rest key value → key + value + 2 ≤ length rest
stands_inside {rest} {key} {value} s =
    let e = s.entry in
    let l : length rest ≡ length e.key + suc (length e.value) + suc (length (drop (key + value + 2) rest)) =
    ap length s.same ∙ simp length-append refl in
    omega (arith, s.key_units, s.value_units)

-- one entry more
pub one_walked : {lent before table table' : List ℕ} {at count key value : ℕ} → Walking lent before table at count → Stands (drop at lent) key value
    → table' ≡ sets table (4 * count) (at ∷ key ∷ (at + key + 1) ∷ value ∷ []) → Walking lent before table' (at + (key + value + 2)) (count + 1)
one_walked {lent} {before} {table} {table'} {at} {count} {key} {value} p s t =
    let es = p.entries in
    let e = s.entry in
    let d : drop (key + value + 2) (drop at lent) ≡ drop (at + (key + value + 2)) lent = drop-drop (key + value + 2) at lent in
    let n : length (entry_spans es) ≡ 4 * count = entry_spans_length 0 es ∙ ap (λ (n : ℕ). 4 * n) p.counted in
    let spans : entry_spans (es ++ e ∷ []) ≡ entry_spans es ++ at ∷ key ∷ (at + key + 1) ∷ value ∷ [] =
    last_spans 0 es e ∙ rw (p.sizes, zero-add, s.key_units, s.value_units) in
    record {
      entries = es ++ e ∷ [];
      plain = last_plain es e p.plain s.plain;
      counted = length-append es (e ∷ []) ∙ ap (λ (n : ℕ). n + 1) p.counted;
      sizes = omega (arith, last_sizes es e, p.sizes, s.key_units, s.value_units);
      stands =
          p.stands
          ∙ ap (λ (l : List ℕ). entry_units es ++ l) (s.same ∙ ap (λ (l : List ℕ). text_of e ++ nul ∷ l) d)
          ∙ sym (last_units es e (drop (at + (key + value + 2)) lent));
      stored = t ∙ rw (p.stored, spans, sets_append before 0 (entry_spans es) (at ∷ key ∷ (at + key + 1) ∷ value ∷ []), n, zero-add);
    }

-- ---- what is told then

-- a bad entry by its number
bad_told : (lent : List ℕ) (i : ℕ) → Bad lent i → FirstBad lent (Refusal.Entry (i + 1))
bad_told lent i b = record { place = i + 1; names = refl; judges = (first_wrong piece_finding 8 i (lent_entries lent)).1 (bad lent i b) }

-- behind those that are passed there is none
pub bad_met : {lent before table : List ℕ} {at count : ℕ} → Walking lent before table at count → Cause (drop at lent) → FirstBad lent (Refusal.Entry (count + 1))
bad_met {lent} {count = count} p c = bad_told lent count (behind p.entries _ p.plain p.counted p.stands c)

-- the block ends there, without its final NUL
pub ended : (lent : List ℕ) (at : ℕ) → length lent ≤ at → Cause (drop at lent)
ended lent at h = runs (rw (drop_of_length-le lent {i = at} h))

-- no entries, no second NUL
pub lone_told : (lent : List ℕ) → starts_with_nul lent ≡ true → starts_with_nul (drop 1 lent) ≡ false → FirstBad lent (Refusal.Entry 1)
lone_told lent s t = bad_told lent 0 (lone refl s t)

-- a block of entries in front
good_told : (lent : List ℕ) (entries : List Entry) (rest : List ℕ) (count used : ℕ) → AllPlain entries → lent ≡ block entries ++ rest
    → count ≤ length lent → length entries ≡ count → units_used entries ≡ used → Counted lent (record { count = count; units = used }) × (entries_read lent ≡ entries)
good_told lent entries rest count used plain same few c u =
    let g = good lent entries rest plain same in (
      record {
        sound = (all_sound piece_finding (lent_entries lent)).1 g.sound;
        few = few;
        counts = rw g.gives (sym c);
        uses = rw g.gives (sym u);
      },
      g.gives,
    )

-- two NULs
pub none_told : (lent : List ℕ) → starts_with_nul lent ≡ true → starts_with_nul (drop 1 lent) ≡ true → Counted lent (record { count = 0; units = 2 })
unfolding block
none_told [] s t = clash false s refl
none_told (x ∷ []) s t = clash false t refl
none_told (x ∷ y ∷ ys) s t =
    let z : x ≡ 0 = eqb-true x 0 s in
    let w : y ≡ 0 = eqb-true y 0 t in
    (good_told (x ∷ y ∷ ys) [] ys 0 2 tt (rw (z, w)) zero-le refl refl).0

-- the final NUL behind entries: what is told, and what the table holds
pub final_met : {lent before table : List ℕ} {at count : ℕ} → Walking lent before table at count → at < length lent → get_or lent at 0 ≡ 0 → ¬ (count ≡ 0)
    → Counted lent (record { count = count; units = at + 1 }) × (table ≡ sets before 0 (entry_spans (entries_read lent)))
final_met {lent} {before} {table} {at} {count} p l z n = go p.entries p.plain p.counted p.sizes p.stands p.stored
  where
    here : drop at lent ≡ nul ∷ drop (at + 1) lent
    here = let d : drop at lent ≡ get_or lent at 0 ∷ drop (at + 1) lent = rw (add-one at) (drop-cons lent at 0 l) in rw z at d

    go : (es : List Entry) → AllPlain es → length es ≡ count → entry_sizes es ≡ at → lent ≡ entry_units es ++ drop at lent → table ≡ sets before 0 (entry_spans es)
        → Counted lent (record { count = count; units = at + 1 }) × (table ≡ sets before 0 (entry_spans (entries_read lent)))
    go [] plain counted sizes stands stored = absurd (n (sym counted))
    go (e ∷ more) plain counted sizes stands stored =
        let same : lent ≡ block (e ∷ more) ++ drop (at + 1) lent =
        stands ∙ ap (λ (l : List ℕ). entry_units (e ∷ more) ++ l) here ∙ sym (block_front e more (drop (at + 1) lent)) in
        let few : count ≤ length lent = omega (arith, walked_few p) in
        let (told, gives) = good_told lent (e ∷ more) (drop (at + 1) lent) count (at + 1) plain same few counted (ap (λ (n : ℕ). n + 1) sizes) in
        (told, rw gives stored)

-- what holds anyway holds where the answer is none of a refusal
pub anyway : {P : Type 0} (r : Result Entries Refusal.the_data) → P → OnOk r P
anyway (Ok entries) p = p
anyway (Err refusal) p = tt

-- ---- a block that starts with NUL

-- where a NUL stands and nothing is passed, the block starts with it, and the table is as it was
pub nothing_walked : {lent before table : List ℕ} {at count : ℕ} → Walking lent before table at count → count ≡ 0 → at < length lent → get_or lent at 0 ≡ 0
    → (starts_with_nul lent ≡ true) × (table ≡ before)
nothing_walked {lent} {before} {table} {at} {count} p n l z = go p.entries p.counted p.sizes p.stored
  where
    starts : (xs : List ℕ) (i : ℕ) → i ≡ 0 → i < length xs → get_or xs i 0 ≡ 0 → starts_with_nul xs ≡ true
    starts [] i e l z = absurd (omega arith)
    starts (x ∷ xs) zero e l z = rw z
    starts (x ∷ xs) (suc i) e l z = absurd (omega arith)

    go : (es : List Entry) → length es ≡ count → entry_sizes es ≡ at → table ≡ sets before 0 (entry_spans es) → (starts_with_nul lent ≡ true) × (table ≡ before)
    go [] c s t = (starts lent at (sym s) l z, t)
    go (e ∷ more) c s t = absurd (omega (arith, c, n))

-- it has no entries
pub none_read : (lent : List ℕ) → starts_with_nul lent ≡ true → entries_read lent ≡ []
unfolding entries_read lent_entries wholes
none_read lent s = rw s (go (starts_with_nul (drop 1 lent)))
  where
    go : (b : Bool) → map split_of (wholes (pick b [] (cut ∷ []))) ≡ []
    go true = refl
    go false = refl

-- a NUL, and another unit or none
pub lone_short : (lent : List ℕ) → length lent < 2 → starts_with_nul (drop 1 lent) ≡ false
lone_short [] h = refl
lone_short (x ∷ []) h = refl
lone_short (x ∷ y ∷ ys) h = absurd (omega arith)

pub lone_other : (lent : List ℕ) → ¬ (get_or lent 1 0 ≡ 0) → starts_with_nul (drop 1 lent) ≡ false
lone_other [] h = refl
lone_other (x ∷ []) h = refl
lone_other (x ∷ y ∷ ys) h = ne_eqb y 0 h

pub second_nul : (lent : List ℕ) → 2 ≤ length lent → get_or lent 1 0 ≡ 0 → starts_with_nul (drop 1 lent) ≡ true
second_nul [] h z = absurd (omega arith)
second_nul (x ∷ []) h z = absurd (omega arith)
second_nul (x ∷ y ∷ ys) h z = rw z
