-- The invariant and the measure of `keys::laying::key_size`. Assumes nothing.
use Prim.Native.Nat.{◌+◌, ◌≤◌, min}
use lib.ListN.{length}
use mathlib.Core.Path.{◌≡◌}
use mathlib.Core.List.{◌++◌}
use Rattle.rules.specs.Record.{arguments_of}
use Rattle.rules.specs.Store.{code_of}
use Rattle.keys.proofs.Walk.{arguments_from}
use Rattle.keys.proofs.laying.key_size.Given as goal

abbrev pub invariant-loop-i : goal.invariant-loop-i
invariant-loop-i l = (l.i ≤ l.n) × (l.size ≤ l.limit) × (min l.limit (l.size + length (code_of (arguments_from l.lent.text.now l.lent.records.now l.i))) ≡ min l.limit (length (l.lent.program.now ++ code_of (arguments_of l.lent.text.now l.lent.records.now))))
