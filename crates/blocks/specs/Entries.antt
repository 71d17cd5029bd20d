-- What the routines under the environment block promise. Assumes nothing.
use Rattle.std.specs.Prelude.{ℕ, ◌+◌, ◌≡◌, Bool, List, [], ◌∷◌, ◌++◌, Option, None, Some, ltb, length, get_or}
use Rattle.std.proofs.lemmas.List.Edits.{sets}
use Rattle.rules.specs.Choice.{pick, either, any}
use Rattle.rules.specs.Unit.{is_nul, nul, equals}
use Rattle.rules.specs.Outcome.{Fault, faultless, fault}
use Rattle.rules.specs.Record as rules
use Rattle.rules.specs.Record.{Entry, exceeds}
use Rattle.blocks.specs.declared.entry_records.EntryRecord.{EntryRecord}

-- ---- records

-- the record of the rules that a record of the code is
abbrev pub ruled : EntryRecord → rules.EntryRecord
ruled r = record { key_start = r.key_start; key_len = r.key_len; value_start = r.value_start; value_len = r.value_len }

-- the record that four numbers make
abbrev pub numbered : List ℕ → rules.EntryRecord
numbered numbers = record { key_start = get_or numbers 0 0; key_len = get_or numbers 1 0; value_start = get_or numbers 2 0; value_len = get_or numbers 3 0 }

-- the key or the value exceeds the text
abbrev pub is_outside : List ℕ → rules.EntryRecord → Bool
is_outside text r = either (exceeds text r.key_start r.key_len) (exceeds text r.value_start r.value_len)

-- the key or the value has a NUL
abbrev pub has_nul : Entry → Bool
has_nul e = either (any is_nul e.key) (any is_nul e.value)

-- a fault by its number and the place told of it; where none is told there is no fault
abbrev pub fault_if : ℕ → Option ℕ → Fault
fault_if number None = faultless
fault_if number (Some place) = fault number place

-- ---- units

-- "Each is key, `=`, value, NUL"
abbrev pub one_entry : Entry → List ℕ
one_entry e = e.key ++ equals ∷ e.value ++ nul ∷ []

-- all of it was written from a place on, and the answer is the place behind
pub record Written (at : ℕ) (whole before after : List ℕ) (r : ℕ) : Type 0 where
  pub place : r ≡ at + length whole
  pub stores : after ≡ sets before at whole

-- ---- counting

-- The units of entries, where so many stand before them, up to the entry with which they pass the limit. Nothing is counted behind it: many records
-- can name the same long text, so that a further sum could wrap.
unfoldable pub until_past : ℕ → ℕ → List Entry → List ℕ
until_past limit to [] = []
until_past limit to (e ∷ more) =
    let next = to + length (one_entry e) in
    let others = until_past limit next more in
    pick (ltb limit next) (one_entry e) (one_entry e ++ others)

-- "one NUL follows the last. No entries: exactly two NULs."
abbrev pub block_end : List Entry → List ℕ
block_end [] = nul ∷ nul ∷ []
block_end (e ∷ more) = nul ∷ []

-- a block as far as it is counted: whole where it is within the limit
unfoldable pub block_until_past : ℕ → List Entry → List ℕ
unfolding until_past
block_until_past limit entries = let units = until_past limit 0 entries in pick (ltb limit (length units)) units (units ++ block_end entries)
