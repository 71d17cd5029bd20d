-- What is told of the entries of a block. Assumes nothing.
use Rattle.std.specs.Prelude.{ℕ, ◌≤◌, ◌≡◌, List, length, Result, Ok, Err, OnOk}
use Rattle.std.proofs.lemmas.List.Edits.{sets}
use Rattle.rules.specs.declared.Entries.{Entries}
use Rattle.rules.specs.declared.Refusal.{Refusal}
use Rattle.rules.specs.Outcome.{faultless, fault, first_fault}
use Rattle.rules.specs.BlockReading.{lent_entries, piece_finding, entries_read, entry_spans, units_used}

-- none is bad; they are counted, and so are the units that they take
pub record Counted (block : List ℕ) (entries : Entries) : Type 0 where
  pub sound : first_fault piece_finding (lent_entries block) ≡ faultless
  pub few : entries.count ≤ length block
  pub counts : entries.count ≡ length (entries_read block)
  pub uses : entries.units ≡ units_used (entries_read block)

-- the first bad entry is told by its number
pub record FirstBad (block : List ℕ) (r : Refusal) : Type 0 where
  pub place : ℕ
  pub names : r ≡ Refusal.Entry place
  pub judges : first_fault piece_finding (lent_entries block) ≡ fault 8 place

-- the first bad entry is told; where none is bad, they are counted, and so are the units that they take
abbrev pub Tallied : List ℕ → Result Entries Refusal → Type 0
Tallied block (Ok entries) = Counted block entries
Tallied block (Err r) = FirstBad block r

-- and where none is bad, their spans are stored
pub record Walked (block before after : List ℕ) (r : Result Entries Refusal) : Type 0 where
  pub told : Tallied block r
  pub stores : OnOk r (after ≡ sets before 0 (entry_spans (entries_read block)))
