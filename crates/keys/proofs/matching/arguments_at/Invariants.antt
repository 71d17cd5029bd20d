-- The invariant and the measure of `keys::matching::arguments_at`. Assumes nothing.
use Prim.Native.Nat.{◌≤◌}
use mathlib.Core.Path.{◌≡◌}
use lib.ListN.{drop, length}
use Rattle.rules.specs.Choice.{equal}
use Rattle.rules.specs.Store.{code_of}
use Rattle.rules.specs.Record.{arguments_of}
use Rattle.keys.proofs.Walk.{arguments_from}
use Rattle.keys.proofs.matching.arguments_at.Given as goal

abbrev pub invariant-loop-i : goal.invariant-loop-i
invariant-loop-i l = (l.i ≤ l.n) × (l.to ≤ length l.key) × (equal (drop l.at l.key) (code_of (arguments_of l.lent.text.now l.lent.records.now)) ≡ equal (drop l.to l.key) (code_of (arguments_from l.lent.text.now l.lent.records.now l.i)))
