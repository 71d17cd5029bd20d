-- What the entry point answers, by what was told of the block. Assumes nothing.
use Rattle.std.specs.Prelude.{Result, Ok, Err, OnOk}
use Prim.Native.Nat.{ℕ, ◌*◌, ◌/◌, ◌≤◌, ◌<◌}
use native.Mathlib.Omega.{arith}
use borrow.Author.Tests.{lt-ltb, le-ltb}
use mathlib.Core.Path.{◌≡◌, refl, sym, ◌∙◌}
use mathlib.Core.List.{List}
use lib.ListN.{length}
use lib.Dec.{ltb}
use lib.Seq.{sets}
use Rattle.rules.specs.declared.Entries.{Entries}
use Rattle.rules.specs.declared.Refusal.TheVariants as Refusal
use Rattle.rules.specs.Record.{Entry}
use Rattle.rules.specs.Outcome.{done, refuse, faultless, fault, first_fault, unless}
use Rattle.rules.specs.Reading.{places_of}
use Rattle.rules.specs.Answer.{Listing}
use Rattle.rules.specs.Block.{block_limit}
use Rattle.rules.specs.BlockReading.{lent_entries, piece_finding, entries_read, entry_spans, block_reading}
use Rattle.laws.specs.Store.{sets_front}
use Rattle.laws.specs.EntrySpans.{entry_spans_length}
use Rattle.entries.specs.Tallied.{Counted, FirstBad, Tallied, Walked}

in_order : (lent : List ℕ) (numbers : ℕ)
    → block_reading lent numbers
    ≡ refuse 2 (ltb block_limit (length lent))
    (unless (first_fault piece_finding (lent_entries lent)) (refuse 3 (ltb (places_of numbers) (2 * length (entries_read lent))) (done (entries_read lent))))
unfolding block_reading
in_order lent numbers = refl

module _ (lent table : List ℕ) where
  -- 2
  pub by_length : block_limit < length lent → Listing (block_reading lent (length table)) (Err Refusal.Length) table table
  by_length h = rw (in_order, lt-ltb block_limit (length lent) h) (record { says = refl; tabulates = refl })

  module _ (short : length lent ≤ block_limit) where
    -- 8
    pub by_entry : {r : Refusal.the_data} → FirstBad lent r → Listing (block_reading lent (length table)) (Err r) table table
    by_entry b = rw (in_order, le-ltb block_limit (length lent) short, b.judges, b.names) (record { says = refl; tabulates = refl })

    module _ {e : Entries} (told : Counted lent e) where
      -- 3
      pub by_places : length table / 2 < 2 * e.count → Listing (block_reading lent (length table)) (Err Refusal.Places) table table
      by_places h =
          let l : places_of (length table) < 2 * length (entries_read lent) = rw (← told.counts) h in
          rw (in_order, le-ltb block_limit (length lent) short, told.sound, lt-ltb (places_of (length table)) (2 * length (entries_read lent)) l)
          (record { says = refl; tabulates = refl })

      -- the entries
      pub by_entries : {r : Result Entries Refusal.the_data} (table' : List ℕ) → 2 * e.count ≤ length table / 2 → Walked lent table table' r
          → Listing (block_reading lent (length table)) r table table'
      by_entries {r} table' h again = go r again.told again.stores
        where
          es : List Entry
          es = entries_read lent

          go : (r : Result Entries Refusal.the_data) → Tallied lent r → OnOk r (table' ≡ sets table 0 (entry_spans es))
              → Listing (block_reading lent (length table)) r table table'
          go (Ok counted) c stored =
              let l : 2 * length es ≤ places_of (length table) = rw (← told.counts) h in
              let n : length (entry_spans es) ≤ length table = omega (arith, entry_spans_length 0 es) in
              rw (in_order, le-ltb block_limit (length lent) short, told.sound, le-ltb (places_of (length table)) (2 * length es) l)
              (record { says = rw (c.counts, c.uses); tabulates = stored ∙ sets_front table (entry_spans es) n })
          go (Err refusal) b stored = let e : faultless ≡ fault 8 b.place = sym told.sound ∙ b.judges in cc
