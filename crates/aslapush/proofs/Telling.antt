-- Answers told in numbers: what an answer says is what is told. Assumes nothing.
use Rattle.std.specs.Prelude.{Result}
use Prim.Native.Nat.{ℕ}
use mathlib.Core.List.{List}
use Rattle.rules.specs.declared.Refusal.{Refusal}
use Rattle.rules.specs.declared.Arguments.{Arguments}
use Rattle.rules.specs.declared.Entries.{Entries}
use Rattle.rules.specs.Outcome.{Outcome}
use Rattle.rules.specs.Record.{Entry}
use Rattle.rules.specs.Answer.{Said, parsed_said, listed_said, Answered, Read, Listing}
use Rattle.aslapush.specs.Export.{Told, Wrote, Gave, Tabulated}

-- an answer that keeps the contract, told in numbers, keeps the exported one
pub told_written : {o : Outcome (List ℕ)} {said : Said} {number : ℕ} {answer before after : List ℕ} → Answered o said before after → Told said number answer
    → Wrote o number answer before after
told_written a t = record { tells = rw a.says at t; leaves = a.leaves }

-- and so the reader's
pub told_parsed : {o : Outcome (List (List ℕ))} {r : Result Arguments Refusal} {number : ℕ} {answer text text' spans spans' : List ℕ} → Read o r text text' spans spans'
    → Told (parsed_said r) number answer → Gave o number answer text text' spans spans'
told_parsed a t = record { tells = rw a.says at t; leaves = a.leaves; tabulates = a.tabulates }

-- and the block reader's
pub told_listed : {o : Outcome (List Entry)} {r : Result Entries Refusal} {number : ℕ} {answer spans spans' : List ℕ} → Listing o r spans spans'
    → Told (listed_said r) number answer → Tabulated o number answer spans spans'
told_listed a t = record { tells = rw a.says at t; tabulates = a.tabulates }
