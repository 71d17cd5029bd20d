-- The records of a flat list judged one after another, the cut one last. Assumes nothing.
use Prim.Native.Nat.{ℕ, ◌+◌, ◌*◌, ◌≤◌, ◌<◌}
use mathlib.Core.Path.{◌≡◌, sym, ◌∙◌}
use mathlib.Core.Bool.{Bool}
use mathlib.Core.List.{List}
use lib.ListN.{length, get_or, drop}
use Rattle.rules.specs.declared.Arg.{Arg}
use Rattle.rules.specs.Outcome.{sound, wrong_if, Fault, faultless, fault, fault_at, fault_from}
use Rattle.rules.specs.Record.{judged, argument_finding, argument_records}
use Rattle.records.specs.Records.{is_wrong, records_of, no_arg}
use Rattle.records.specs.Flat.{next_lent, none_lent, last_lent, record_is}

module _ (text flat : List ℕ) where
  -- what the records from an index on come to
  abbrev pub from : ℕ → Fault
  from i = fault_from (judged (argument_finding text)) (i + 1) (argument_records (drop (i * 3) flat))

  -- the record of an index is judged, then those behind it
  pub one_judged : (i : ℕ) (a : Arg) (b : Bool) → i * 3 + 2 < length flat → a ≡ get_or (records_of flat) i no_arg → b ≡ is_wrong text a
      → from i ≡ fault_at (i + 1) (wrong_if 1 b sound) (from (i + 1))
  unfolding fault_from
  one_judged i a b h e w = rw (next_lent flat i h, rw (e ∙ sym (record_is flat i h)) at w)

  -- behind the last record there is no fault
  pub all_judged : (i : ℕ) → length flat ≤ i * 3 → from i ≡ faultless
  unfolding fault_from
  all_judged i h = rw (none_lent flat (i * 3) h)

  -- but for a cut one
  pub cut_judged : (i : ℕ) → i * 3 < length flat → length flat < i * 3 + 3 → from i ≡ fault 1 (i + 1)
  unfolding fault_from
  cut_judged i h g = rw (last_lent flat (i * 3) h g)
