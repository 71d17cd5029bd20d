-- What is told of one entry at the front of the rest of a block. Assumes nothing.
use Rattle.std.specs.Prelude.{ℕ, ◌+◌, ◌≡◌, List, ◌∷◌, ◌++◌, length, drop, Option, None, Some}
use Rattle.rules.specs.Unit.{nul}
use Rattle.rules.specs.Record.{Entry}
use Rattle.laws.specs.Entry.{Plain, text_of}
use Rattle.laws.specs.BadEntry.{Cause}
use Rattle.entries.specs.declared.marks.Sizes.{Sizes}

-- a good entry stands in front, its key and its value of so many units
pub record Stands (rest : List ℕ) (key value : ℕ) : Type 0 where
  pub entry : Entry
  pub plain : Plain entry
  pub same : rest ≡ text_of entry ++ nul ∷ drop (key + value + 2) rest
  pub key_units : length entry.key ≡ key
  pub value_units : length entry.value ≡ value

-- where sizes are told, a good entry stands there; else it is bad by one of the causes
abbrev pub Measured : List ℕ → Option Sizes → Type 0
Measured rest (Some sizes) = Stands rest sizes.key sizes.value
Measured rest None = Cause rest
