-- The invariant and the measure of `records::first_fault`. Assumes nothing.
use Prim.Native.Nat.{◌*◌, ◌+◌, ◌-◌, ◌≤◌}
use mathlib.Core.Path.{◌≡◌}
use lib.ListN.{drop}
use Rattle.rules.specs.Outcome.{fault_from}
use Rattle.rules.specs.Record.{argument_fault, argument_finding, argument_records, judged}
use Rattle.records.proofs.first_fault.Given as goal

abbrev pub invariant-loop-i : goal.invariant-loop-i
invariant-loop-i l =
    (l.i ≤ l.whole) × (argument_fault l.text l.records ≡ fault_from (judged (argument_finding l.text)) (l.i + 1) (argument_records (drop (l.i * 3) l.records)))

abbrev pub decreases-loop-i : goal.decreases-loop-i
decreases-loop-i l = l.whole - l.i
