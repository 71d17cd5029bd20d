-- Records in a flat list: the numbers of one record, at any width, and the faults of lists of records. Assumes nothing.
use Rattle.std.specs.Prelude.{ℕ, zero, suc, ◌+◌, ◌≤◌, ◌<◌, ◌≡◌, refl, List, [], ◌∷◌, ◌++◌, length, get_or, drop}
use Rattle.std.proofs.Common.{add-zero, add-one, arith, drop-cons}
use Rattle.rules.specs.Outcome.{Finding, sound, wrong, Fault, faultless, fault, fault_at, fault_from}

-- ---- the numbers of one record

-- so many numbers in a row from a place on
abbrev pub numbers_at : List ℕ → ℕ → ℕ → List ℕ
numbers_at flat at zero = []
numbers_at flat at (suc width) = get_or flat at 0 ∷ numbers_at flat (at + 1) width

-- what is left of a flat list starts with the numbers of the next record
pub next_numbers : (flat : List ℕ) (at width : ℕ) → at + width ≤ length flat → drop at flat ≡ numbers_at flat at width ++ drop (at + width) flat
next_numbers flat at zero h = rw add-zero
next_numbers flat at (suc width) h =
    let e : at + suc width ≡ at + 1 + width = omega arith in
    let l : at < length flat = omega arith in
    rw (drop-cons flat at 0, ← add-one at, next_numbers flat (at + 1) width (omega arith), e)

-- ---- the faults of lists of records

-- the first of two faults
abbrev pub or_fault : Fault → Fault → Fault
or_fault faultless next = next
or_fault (fault number place) next = fault number place

-- the first fault of two lists of records, one behind the other
pub faults_append : {A : Type 0} (find : A → Finding) (place : ℕ) (records more : List A)
    → fault_from find place (records ++ more) ≡ or_fault (fault_from find place records) (fault_from find (place + length records) more)
unfolding fault_from
faults_append find place [] more = rw add-zero
faults_append find place (a ∷ records) more = go (find a) (faults_append find (place + 1) records more)
  where
    next : place + 1 + length records ≡ place + suc (length records)
    next = omega arith

    go : (f : Finding)
        → fault_from find (place + 1) (records ++ more) ≡ or_fault (fault_from find (place + 1) records) (fault_from find (place + 1 + length records) more)
        → fault_at place f (fault_from find (place + 1) (records ++ more))
        ≡ or_fault (fault_at place f (fault_from find (place + 1) records)) (fault_from find (place + suc (length records)) more)
    go sound h = rw (h, next)
    go (wrong number) h = refl
