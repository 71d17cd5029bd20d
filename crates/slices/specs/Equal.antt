-- The entries over a slice of records and the flat entries on the records' numbers: one answer, one content of lent memory. Assumes nothing.
use Rattle.std.specs.Prelude.{ℕ, ◌≡◌, refl, Bool, List, [], ◌∷◌, map, length, Result}
use Rattle.std.proofs.Common.{ap}
use Rattle.rules.specs.declared.Refusal.{Refusal}
use Rattle.rules.specs.declared.Arg.{Arg}
use Rattle.rules.specs.declared.Line.{Line}
use Rattle.rules.specs.Answer.{built_said, Answered}
use Rattle.rules.specs.Building.{either_line}
use Rattle.rules.specs.Record.{whole, argument_records, flat_of}
use Rattle.laws.specs.Answer.{built_one, answered_once}

-- the numbers of a flat list that holds whole records alone are those records' numbers
pub flat_only : (numbers : List ℕ) (args : List Arg) → argument_records numbers ≡ map whole args → numbers ≡ flat_of args
unfolding argument_records flat_of
flat_only [] [] e = refl
flat_only [] (a ∷ args) e = cc
flat_only (k ∷ []) [] e = cc
flat_only (k ∷ []) (a ∷ args) e = cc
flat_only (k ∷ s ∷ []) [] e = cc
flat_only (k ∷ s ∷ []) (a ∷ args) e = cc
flat_only (k ∷ s ∷ l ∷ more) [] e = cc
flat_only (k ∷ s ∷ l ∷ more) (a ∷ args) e =
    let first : record { kind = k; start = s; len = l } ≡ a = cc in
    let rest : argument_records more ≡ map whole args = cc in
    let same = flat_only more args rest in
    let kinds = ap (λ (x : Arg). x.kind) first in
    let starts = ap (λ (x : Arg). x.start) first in
    let lens = ap (λ (x : Arg). x.len) first in
    cc

-- for every list of records and every flat list that holds them: what the contract of an entry over a slice allows and what that of the flat entry allows are one answer and one content of lent memory
pub same_answers : (batch force : Bool) (lent : List ℕ) (args : List Arg) (numbers text before : List ℕ) → argument_records numbers ≡ map whole args → {r r' : Result Line Refusal} {after after' : List ℕ}
    → Answered (either_line batch force lent (flat_of args) text (length before)) (built_said r) before after
    → Answered (either_line batch force lent numbers text (length before)) (built_said r') before after'
    → (r ≡ r') × (after ≡ after')
same_answers batch force lent args numbers text before holds {r} {r'} {after} {after'} thin flat =
    answered_once built_one (either_line batch force lent (flat_of args) text (length before)) before r r' after after' thin (rw (flat_only numbers args holds) at flat)
