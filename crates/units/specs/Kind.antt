-- The kind that a number stands for. Assumes nothing.
use Rattle.std.specs.Prelude.{ℕ, Result, Ok, Err, eqb}
use Rattle.rules.specs.Choice.{pick}
use Rattle.rules.specs.Record.{regular, raw}
use Rattle.units.specs.declared.kinds.Kind.{Kind}
use Rattle.units.specs.declared.kinds.Kind.TheVariants.{Regular, Raw}
use Rattle.units.specs.declared.kinds.NoKind.{NoKind}

-- "a record's kind isn't 0 or 1": the kind, or the number that is none
abbrev pub kind_of : ℕ → Result Kind NoKind
kind_of number = pick (eqb number regular) (Ok Regular) (pick (eqb number raw) (Ok Raw) (Err (record { 0 = number })))
