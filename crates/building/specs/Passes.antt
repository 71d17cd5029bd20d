-- The passes over the records of a line: what one record makes of the units so far and of the output. Assumes nothing.
use Rattle.std.specs.Prelude.{ℕ, List, length, Result, Ok}
use Rattle.rules.specs.declared.Arg.{Arg}
use Rattle.rules.specs.declared.Refusal.{Refusal}
use Rattle.rules.specs.Record.{argument_of}
use Rattle.adding.specs.declared.styles.Style.{Style}
use Rattle.adding.specs.Limits.{counted}
use Rattle.adding.specs.Judged.{record_judged, units_judged}
use Rattle.adding.specs.Added.{piece, stored}
use Rattle.building.specs.declared.works.Pass.{Pass}
use Rattle.building.specs.declared.works.Pass.TheVariants.{Records, Units, Measure, Write}

-- how many units of an output a pass is lent: measuring is lent nothing
abbrev pub lent_units : Pass → ℕ → ℕ
lent_units Records room = 0
lent_units Units room = 0
lent_units Measure room = 0
lent_units Write room = room

-- what a pass makes of the units so far at a record with its place
abbrev pub passed : Pass → Style → List ℕ → ℕ → ℕ → Arg → Result ℕ Refusal
passed Records s text units place a = record_judged text units place a
passed Units s text units place a = units_judged s.batch units place (argument_of text a)
passed Measure s text units place a = Ok (counted units (length (piece s (argument_of text a))))
passed Write s text units place a = Ok (counted units (length (piece s (argument_of text a))))

-- what a pass stores at a record: only the last one does
abbrev pub passed_out : Pass → Style → List ℕ → ℕ → Arg → List ℕ → List ℕ
passed_out Records s text units a out = out
passed_out Units s text units a out = out
passed_out Measure s text units a out = out
passed_out Write s text units a out = stored out units (piece s (argument_of text a))
