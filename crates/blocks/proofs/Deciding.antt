-- What the entry point answers, refusal by refusal. Assumes nothing.
use Rattle.std.specs.Prelude.{Ok, Err}
use Prim.Native.Nat.{ℕ, ◌≤◌, ◌<◌}
use native.Mathlib.Omega.{arith}
use mathlib.Core.Path.{◌≡◌, refl, ap, ◌∙◌}
use mathlib.Core.List.{List}
use lib.ListN.{length}
use borrow.Author.Tests.{lt-ltb, le-ltb}
use Rattle.laws.specs.Store.{sets_front}
use Rattle.rules.specs.declared.Refusal.TheVariants as Refusal
use Rattle.rules.specs.Outcome.{fault, faultless, first_fault, unless, limited}
use Rattle.rules.specs.Record.{entry_fault, entries_of}
use Rattle.rules.specs.Block.{block_limit, block, entry_nul_finding, environment_block}
use Rattle.rules.specs.Answer.{Answered, filled_said, wrote}
use Rattle.blocks.proofs.Entries.{counts_for}
use Rattle.blocks.specs.Entries.{Written, block_until_past}

in_order : (records text : List ℕ) (room : ℕ)
    → environment_block records text room
    ≡ unless (entry_fault text records)
    (unless (first_fault entry_nul_finding (entries_of text records)) (limited block_limit room (block (entries_of text records))))
unfolding environment_block
in_order records text room = refl

module _ (records text out : List ℕ) where
  -- 1
  pub by_record : (place : ℕ) → entry_fault text records ≡ fault 1 place
      → Answered (environment_block records text (length out)) (filled_said (Err (Refusal.Record place))) out out
  by_record place h = rw (in_order, h) (record { says = refl; leaves = refl })

  module _ (sound : entry_fault text records ≡ faultless) where
    -- 5
    pub by_nul : (place : ℕ) → first_fault entry_nul_finding (entries_of text records) ≡ fault 5 place
        → Answered (environment_block records text (length out)) (filled_said (Err (Refusal.Nul place))) out out
    by_nul place h = rw (in_order, sound, h) (record { says = refl; leaves = refl })

    -- the block, and what of it is counted
    abbrev whole : List ℕ
    whole = block (entries_of text records)

    abbrev counted : List ℕ
    counted = block_until_past block_limit (entries_of text records)

    module _ (clean : first_fault entry_nul_finding (entries_of text records) ≡ faultless) (n : ℕ) (size : n ≡ length counted) where
      -- 2
      pub by_length : block_limit < n → Answered (environment_block records text (length out)) (filled_said (Err Refusal.Length)) out out
      by_length h =
          let past : block_limit < length whole = (counts_for block_limit (entries_of text records)).past (rw size at h) in
          rw (in_order, sound, clean, lt-ltb block_limit (length whole) past) (record { says = refl; leaves = refl })

      module _ (within : n ≤ block_limit) where
        all : counted ≡ whole
        all = (counts_for block_limit (entries_of text records)).same (rw size at within)

        fits : n ≡ length whole
        fits = size ∙ ap length all

        short : length whole ≤ block_limit
        short = omega (arith, fits)

        -- 4
        pub by_room : length out < n → Answered (environment_block records text (length out)) (filled_said (Err Refusal.Room)) out out
        by_room h =
            rw (in_order, sound, clean, le-ltb block_limit (length whole) short, lt-ltb (length out) (length whole) (rw fits at h))
            (record { says = refl; leaves = refl })

        -- the block
        pub by_block : (after : List ℕ) (r : ℕ) → n ≤ length out → Written 0 counted out after r
            → Answered (environment_block records text (length out)) (filled_said (Ok n)) out after
        by_block after r h w =
            let l : length whole ≤ length out = rw fits at h in
            rw (in_order, sound, clean, le-ltb block_limit (length whole) short, le-ltb (length out) (length whole) l)
            (record { says = ap wrote fits; leaves = (rw all at w.stores) ∙ sets_front out whole l })
