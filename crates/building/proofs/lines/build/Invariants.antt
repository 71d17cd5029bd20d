-- The invariant and the measure of `building::lines::build`. Assumes nothing.
use mathlib.Core.Path.{◌≡◌}
use lib.ListN.{length}
use Rattle.rules.specs.Building.{either_line}
use Rattle.records.specs.Records.{records_of}
use Rattle.building.specs.Turns.{Stands, turns_left}
use Rattle.building.proofs.lines.build.Given as goal

abbrev pub invariant-loop-next : goal.invariant-loop-next
invariant-loop-next l =
    Stands (either_line l.batch l.force_quotes l.lent l.records l.text (length l.initial.out)) l.lent l.text (records_of l.records) l.initial.out l.work l.out × (length l.out ≡ length l.initial.out)

abbrev pub decreases-loop-next : goal.decreases-loop-next
decreases-loop-next l =
    turns_left (either_line l.batch l.force_quotes l.lent l.records l.text (length l.initial.out)) l.lent l.text (records_of l.records) l.initial.out l.work
