-- What a routine leaves that writes elements as far as there is room, and counts them; parts placed one after another. Assumes nothing.
use Rattle.std.specs.Prelude.{ℕ, ◌+◌, ◌≡◌, refl, List, [], ◌∷◌, ◌++◌, length, set, replicate}
use Rattle.std.proofs.Common.{zero-add, arith, sym, ap, ◌∙◌, length-append}
use Rattle.std.proofs.lemmas.List.{length-replicate}
use Rattle.std.proofs.lemmas.List.Edits.{sets}
use Rattle.std.proofs.Math.Seq.{length-sets}
use Rattle.laws.specs.Store.{sets_append}

-- The contract of a routine that writes `whole` to the front of what it is lent, as far as there is room, and counts it.
pub record Appended (whole : List ℕ) (count : ℕ) (before after : List ℕ) : Type 0 where
  pub counts : count ≡ length whole
  pub stores : after ≡ sets before 0 whole

-- such a contract allows one count and one content of what is lent
pub appended_one : {whole : List ℕ} {count count' : ℕ} {before after after' : List ℕ}
    → Appended whole count before after → Appended whole count' before after' → (count ≡ count') × (after ≡ after')
appended_one a b = (a.counts ∙ sym b.counts, a.stores ∙ sym b.stores)

-- The same from a place on; the answer is the place behind what is written.
pub record Placed (whole : List ℕ) (from to : ℕ) (before after : List ℕ) : Type 0 where
  pub ends : to ≡ from + length whole
  pub stores : after ≡ sets before from whole

-- one part and then another
pub both_placed : {a b : List ℕ} {at mid to : ℕ} {d e f : List ℕ} → Placed a at mid d e → Placed b mid to e f → Placed (a ++ b) at to d f
both_placed {a} {b} {at} {mid} {to} {d} {e} {f} p q =
    record {
      ends = rw length-append (omega (arith, p.ends, q.ends));
      stores = q.stores ∙ rw (p.stores, p.ends) (sym (sets_append d at a b));
    }

-- a run of one element
pub run_placed : (n x at : ℕ) {d e : List ℕ} → e ≡ sets d at (replicate n x) → Placed (replicate n x) at (at + n) d e
run_placed n x at s = record { ends = rw length-replicate; stores = s }

-- one element
pub unit_placed : (x at : ℕ) {d e : List ℕ} → e ≡ set d at x → Placed (x ∷ []) at (at + 1) d e
unit_placed x at s = record { ends = refl; stores = s }

-- two elements
pub two_placed : (x y at : ℕ) {d e f : List ℕ} → e ≡ set d at x → f ≡ set e (at + 1) y → Placed (x ∷ y ∷ []) at (at + 2) d f
two_placed x y at {d} {e} {f} s t =
    let n : at + 1 + 1 ≡ at + 2 = omega arith in
    let p : Placed (x ∷ y ∷ []) at (at + 1 + 1) d f = both_placed (unit_placed x at s) (unit_placed y (at + 1) t) in
    rw n at p

-- what is placed from the front on is appended
pub appended : {whole : List ℕ} {count : ℕ} {d e : List ℕ} → Placed whole 0 count d e → Appended whole count d e
appended p = record { counts = p.ends ∙ zero-add _; stores = p.stores }

-- ---- what is still to be placed

-- placing what is left would leave what placing the whole from the start leaves
pub record Left (whole : List ℕ) (at : ℕ) (start : List ℕ) (rest : List ℕ) (to : ℕ) (now : List ℕ) : Type 0 where
  pub counts : to + length rest ≡ at + length whole
  pub stores : sets now to rest ≡ sets start at whole

module _ {whole start : List ℕ} {at : ℕ} where
  -- a part of it is placed
  pub less_left : {a b : List ℕ} {to to' : ℕ} {d e : List ℕ} → Left whole at start (a ++ b) to d → Placed a to to' d e → Left whole at start b to' e
  less_left {a} {b} {to} {d = d} l p =
      record {
        counts = omega (arith, p.ends, rw length-append at l.counts);
        stores = rw (p.stores, p.ends) (sym (sets_append d to a b) ∙ l.stores);
      }

  -- all of it is placed
  pub none_left : {a : List ℕ} {to to' : ℕ} {d e : List ℕ} → Left whole at start a to d → Placed a to to' d e → Placed whole at to' start e
  none_left l p = record { ends = p.ends ∙ l.counts; stores = p.stores ∙ l.stores }

  -- no place is gained or lost
  pub same_left : {rest : List ℕ} {to : ℕ} {now : List ℕ} → Left whole at start rest to now → length now ≡ length start
  same_left l = simp length-sets at (ap length l.stores)
