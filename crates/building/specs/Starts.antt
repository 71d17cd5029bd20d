-- Where building stands before its first turn, from a flat list of records and from a slice of them. Assumes nothing.
use Rattle.std.specs.Prelude.{ℕ, ◌/◌, ◌≡◌, refl, Bool, List, [], length, drop, Err}
use Rattle.std.proofs.Common.{arith, sym, ◌∙◌, drop_of_length-le}
use Rattle.rules.specs.declared.Arg.{Arg}
use Rattle.rules.specs.declared.Refusal.{Refusal}
use Rattle.rules.specs.Outcome.{faultless, fault_from}
use Rattle.rules.specs.Record.{argument_finding, argument_fault, flat_of}
use Rattle.rules.specs.Building.{either_line}
use Rattle.rules.specs.Answer.{Answered, refusal_said}
use Rattle.records.specs.Records.{records_of, verdict_fault}
use Rattle.records.specs.Flat.{whole_count, flat_records, flat_back, faults_whole}
use Rattle.building.specs.Line.{line_outcome}
use Rattle.building.specs.Works.{begun_at}
use Rattle.building.specs.Both.{either_is}
use Rattle.building.specs.Turns.{Stands, refused_here}

-- the records are judged already, and none is at fault
pub stands_judged : (batch force : Bool) (lent records text out : List ℕ) → argument_fault text records ≡ faultless
    → Stands (either_line batch force lent records text (length out)) lent text (records_of records) out (begun_at batch force (length records / 3) (length records / 3)) out
unfolding line_outcome fault_from
stands_judged batch force lent records text out e =
    let is = either_is batch force lent records text (length out) in
    let n = whole_count records in
    let none : drop (length records / 3) (records_of records) ≡ [] = drop_of_length-le (records_of records) {i = length records / 3} (omega arith) in
    record { counts = sym n; within = omega arith; due = record { owes = rw none (is ∙ rw e); kept = refl } }

-- one of them is at fault, and nothing has changed
pub stands_refused : (batch force : Bool) (lent records text out : List ℕ) (r : Refusal) → verdict_fault (Err r) ≡ argument_fault text records
    → Answered (either_line batch force lent records text (length out)) (refusal_said r) out out
unfolding line_outcome
stands_refused batch force lent records text out r e =
    let is = either_is batch force lent records text (length out) in
    refused_here _ lent text (records_of records) out r refl (is ∙ rw (← e)) refl

-- the records are given as they are
pub stands_begun : (batch force : Bool) (lent : List ℕ) (args : List Arg) (text out : List ℕ)
    → Stands (either_line batch force lent (flat_of args) text (length out)) lent text args out (begun_at batch force (length args) 0) out
unfolding line_outcome argument_fault
stands_begun batch force lent args text out =
    let is = either_is batch force lent (flat_of args) text (length out) in
    record { counts = refl; within = omega arith; due = record { owes = is ∙ rw (flat_back args, flat_records args, faults_whole (argument_finding text) 1 args); kept = refl } }
