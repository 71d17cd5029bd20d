-- The invariant of `decisions::has_settling`. Assumes nothing.
use lib.ListN.{drop}
use mathlib.Core.Path.{◌≡◌}
use Rattle.rules.specs.Choice.{any}
use Rattle.decisions.specs.Settling.{is_settling}
use Rattle.decisions.proofs.has_settling.Given as goal

abbrev pub invariant-loop-unit : goal.invariant-loop-unit
invariant-loop-unit l = any (is_settling l.batch) (drop l.unit-index l.arg) ≡ any (is_settling l.batch) l.arg
