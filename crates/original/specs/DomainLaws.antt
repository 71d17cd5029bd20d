-- What it says that an outcome is in the oracle's domain. Assumes nothing.
use Rattle.std.specs.Prelude.{ℕ, ◌+◌, ◌≡◌, Bool, ltb, eqb, length}
use borrow.Author.Tests.{eqb-true}
use Rattle.std.proofs.Math.Path.{refl}
use Rattle.std.proofs.Common.{sym, ◌∙◌}
use Rattle.std.proofs.Math.Bool.{true, false}
use mathlib.Core.List.{List, [], ◌∷◌}
use Rattle.rules.specs.Outcome.{Outcome, done, refuse, Finding, sound, wrong, Fault, faultless, fault, fault_at, fault_from, unless, limited}
use Rattle.rules.specs.Record.{judged, argument_finding, argument_fault, argument_records, entry_finding, entry_fault, entry_records}
use Rattle.laws.specs.Fault.{Finds}
use Rattle.laws.specs.Finding.{argument_finds, entry_finds}
use Rattle.original.specs.Domain.{gives, port_says, in_domain, fault_says}
use Rattle.original.specs.Laws.{either_false}

-- ---- limit and room

-- neither the limit nor the room refuses
pub limited_says : (limit room : ℕ) (result : List ℕ) → in_domain (limited limit room result) ≡ true → port_says (limited limit room result) ≡ gives result
limited_says limit room result h = go (ltb limit (length result)) (ltb room (length result)) h
  where
    go : (a b : Bool) → in_domain (refuse 2 a (refuse 4 b (done result))) ≡ true → port_says (refuse 2 a (refuse 4 b (done result))) ≡ gives result
    go true b h = cc
    go false true h = cc
    go false false h = refl

-- what is found in the arguments or entries is told, or nothing is and the result stands
pub unless_says : (g : Fault) (limit room : ℕ) (result : List ℕ) → in_domain (unless g (limited limit room result)) ≡ true
    → port_says (unless g (limited limit room result)) ≡ fault_says g result
unless_says faultless limit room result h = limited_says limit room result h
unless_says (fault number place) limit room result h = refl

-- ---- records

-- where records are found wrong by 1 alone, in the domain there is no fault
module _ {A B : Type 0} (find : A → Finding) (ones : Finds (1 ∷ []) find) (o : Outcome B) where
  no_fault : (place : ℕ) (records : List A) → in_domain (unless (fault_from find place records) o) ≡ true → fault_from find place records ≡ faultless
  unfolding fault_from
  no_fault place [] h = refl
  no_fault place (a ∷ more) h = go (find a) refl (fault_from find (place + 1) more) (no_fault (place + 1) more) h
    where
      go : (f : Finding) → find a ≡ f → (next : Fault) → (in_domain (unless next o) ≡ true → next ≡ faultless)
          → in_domain (unless (fault_at place f next) o) ≡ true → fault_at place f next ≡ faultless
      go sound e next ih h = ih h
      go (wrong number) e next ih h =
          let same : number ≡ 1 = eqb-true number 1 (sym (either_false (eqb number 1)) ∙ ones number a e) in
          let never : false ≡ true = rw same at h in
          cc

-- no argument record is at fault
pub arguments_sound : (text records : List ℕ) (o : Outcome (List ℕ)) → in_domain (unless (argument_fault text records) o) ≡ true
    → argument_fault text records ≡ faultless
unfolding argument_fault
arguments_sound text records o h = no_fault (judged (argument_finding text)) (argument_finds text) o 1 (argument_records records) h

-- no entry record is at fault
pub entries_sound : (text records : List ℕ) (o : Outcome (List ℕ)) → in_domain (unless (entry_fault text records) o) ≡ true
    → entry_fault text records ≡ faultless
unfolding entry_fault
entries_sound text records o h = no_fault (judged (entry_finding text)) (entry_finds text) o 1 (entry_records records) h
