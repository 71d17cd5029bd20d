-- What an example is: what the definitions compute, and what it should be. Assumes nothing.
use Rattle.std.specs.Prelude.{ℕ, Bool, List, ℤ}
use Rattle.rules.specs.Outcome.{Outcome}
use Rattle.rules.specs.Record.{Entry}

-- what can be shown of a definition
pub data Shown : Type 0 where
  sequence : List ℕ → Shown
  sequences : List (List ℕ) → Shown
  written : Outcome (List ℕ) → Shown
  read : Outcome (List (List ℕ)) → Shown
  listed : Outcome (List Entry) → Shown
  truths : List Bool → Shown
  numbers : List ℤ → Shown

infix 80 ◌gives◌
-- what is computed gives what is stated
pub data Example : Type 0 where
  ◌gives◌ : Shown → Shown → Example

-- what the definitions compute
abbrev pub computed : Example → Shown
computed (a gives b) = a

-- what it should be
abbrev pub stated : Example → Shown
stated (a gives b) = b
