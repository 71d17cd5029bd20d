-- The units that settle that an argument stands in quotes, and their classes. Assumes nothing.
use Rattle.std.specs.Prelude.{ℕ, Bool, eqb}
use Rattle.rules.specs.Choice.{pick, either, flip}
use Rattle.rules.specs.Unit.{is_blank, is_forcing}

-- whether a unit settles that quotes are needed: a blank, in a batch argument any forcing unit
abbrev pub is_settling : Bool → ℕ → Bool
is_settling batch x = pick batch (is_forcing x) (is_blank x)

-- the same by the unit's class: class 3, in a batch argument all classes but 0 and 5
abbrev pub settles_by : Bool → ℕ → Bool
settles_by batch class = pick batch (flip (either (eqb class 0) (eqb class 5))) (eqb class 3)
