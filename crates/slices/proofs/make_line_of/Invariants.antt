-- The invariant and the measure of `slices::make_line_of`. Assumes nothing.
use mathlib.Core.Path.{◌≡◌}
use lib.ListN.{length}
use Rattle.rules.specs.Building.{either_line}
use Rattle.rules.specs.Record.{flat_of}
use Rattle.building.specs.Turns.{Stands, turns_left}
use Rattle.slices.proofs.make_line_of.Given as goal

abbrev pub invariant-loop-next : goal.invariant-loop-next
invariant-loop-next l =
    Stands (either_line l.batch l.force_quotes l.lent (flat_of l.args) l.text (length l.initial.out)) l.lent l.text l.args l.initial.out l.work l.out × (length l.out ≡ length l.initial.out)

abbrev pub decreases-loop-next : goal.decreases-loop-next
decreases-loop-next l =
    turns_left (either_line l.batch l.force_quotes l.lent (flat_of l.args) l.text (length l.initial.out)) l.lent l.text l.args l.initial.out l.work
