-- `decisions::needs_batch_quotes` meets its contract. Assumes nothing.
use mathlib.Core.Path.{◌≡◌}
use Rattle.rules.specs.Choice.{any, either, is_empty}
use Rattle.rules.specs.Unit.{is_forcing}
use Rattle.rules.specs.Batch.{ends_in_backslash, needs_batch_quotes}
use Rattle.decisions.proofs.Deciding.{counted_empty, in_turn}
use Rattle.decisions.proofs.needs_batch_quotes.Goals as goal
use Rattle.decisions.proofs.needs_batch_quotes.Goals.{Joined-is_empty, then-force, else-force, then-is_empty, else-is_empty}

-- what the first three tests come to
in_front : (c : Joined-is_empty) → c.if-is_empty.value ≡ either (either c.args.force (is_empty c.args.arg.now)) (ends_in_backslash c.args.arg.now)
in_front c =
    let front : c.if-force.value ≡ either c.args.force (is_empty c.args.arg.now) =
    elim c.if-force.branch [
      | then-force w ↦ rw (w.value-is, w.if-force.true)
      | else-force w ↦ rw (w.value-is, w.is_empty.ensures, w.if-force.false, counted_empty)
    ] in
    elim c.if-is_empty.branch [
      | then-is_empty w ↦ rw (← front, w.value-is, w.if-is_empty.true)
      | else-is_empty w ↦ rw (← front, w.value-is, w.if-is_empty.false) w.ends_in_backslash.ensures
    ]

pub returns-then-ends_in_backslash : goal.returns-then-ends_in_backslash
unfolding needs_batch_quotes
returns-then-ends_in_backslash c =
    let back = in_front (goal.at.returns-then-ends_in_backslash c).Joined-is_empty in
    in_turn c.args.force (is_empty c.args.arg.now) (ends_in_backslash c.args.arg.now) (any is_forcing c.args.arg.now) back (rw c.if-ends_in_backslash.true)

pub returns-else-ends_in_backslash : goal.returns-else-ends_in_backslash
unfolding needs_batch_quotes
returns-else-ends_in_backslash c =
    let back = in_front (goal.at.returns-else-ends_in_backslash c).Joined-is_empty in
    in_turn c.args.force (is_empty c.args.arg.now) (ends_in_backslash c.args.arg.now) (any is_forcing c.args.arg.now) back (rw c.if-ends_in_backslash.false c.has_settling.ensures)
