-- The whole records of a flat list, and the first record at fault. Assumes nothing.
use Rattle.std.specs.Prelude.{ℕ, Bool, List, Result, Ok, Err, ⊤}
use Rattle.rules.specs.declared.Arg.{Arg}
use Rattle.rules.specs.declared.Refusal.{Refusal}
use Rattle.rules.specs.Answer.{refusal_number, refusal_place}
use Rattle.rules.specs.Choice.{either}
use Rattle.rules.specs.Outcome.{Fault, faultless, fault}
use Rattle.rules.specs.Record.{is_no_kind, exceeds, argument_records, wholes}

-- the whole records of a flat list
unfoldable pub records_of : List ℕ → List Arg
unfolding argument_records wholes
records_of flat = wholes (argument_records flat)

-- what stands for a record where a list has none
abbrev pub no_arg : Arg
no_arg = record { kind = 0; start = 0; len = 0 }

-- 1: the kind is none, or the part exceeds the text
abbrev pub is_wrong : List ℕ → Arg → Bool
is_wrong text a = either (is_no_kind a.kind) (exceeds text a.start a.len)

-- the fault that a verdict says
abbrev pub verdict_fault : Result ⊤ Refusal → Fault
verdict_fault (Ok _) = faultless
verdict_fault (Err r) = fault (refusal_number r) (refusal_place r)
