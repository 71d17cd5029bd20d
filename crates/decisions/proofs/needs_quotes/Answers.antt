-- `decisions::needs_quotes` meets its contract. Assumes nothing.
use mathlib.Core.Path.{◌∙◌}
use Rattle.rules.specs.Quoting.{needs_quotes}
use Rattle.decisions.proofs.Deciding.{counted_empty}
use Rattle.decisions.proofs.needs_quotes.Goals as goal
use Rattle.decisions.proofs.needs_quotes.Goals.{then-force, else-force}

pub returns-then-is_empty : goal.returns-then-is_empty
unfolding needs_quotes
returns-then-is_empty c =
    elim c.if-force.branch [
      | then-force w ↦ c.if-is_empty.true ∙ rw w.if-force.true
      | else-force w ↦ rw (w.if-force.false, counted_empty, ← w.is_empty.ensures, ← w.value-is, c.if-is_empty.true)
    ]

pub returns-then-has_blank : goal.returns-then-has_blank
unfolding needs_quotes
returns-then-has_blank c =
    elim c.if-force.branch [
      | then-force w ↦ cc
      | else-force w ↦ rw (w.if-force.false, counted_empty, ← w.is_empty.ensures, ← w.value-is, c.if-is_empty.false) c.has_settling.ensures
    ]

pub returns-else-has_blank : goal.returns-else-has_blank
unfolding needs_quotes
returns-else-has_blank c =
    elim c.if-force.branch [
      | then-force w ↦ cc
      | else-force w ↦ rw (w.if-force.false, counted_empty, ← w.is_empty.ensures, ← w.value-is, c.if-is_empty.false) c.has_blank.ensures
    ]
