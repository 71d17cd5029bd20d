-- The records of a flat list, one after another, and the flat list of records. Assumes nothing.
use Rattle.std.specs.Prelude.{ℕ, zero, suc, ◌+◌, ◌*◌, ◌/◌, ◌≤◌, ◌<◌, ◌≡◌, refl, List, [], ◌∷◌, map, length, get_or, drop}
use Rattle.std.proofs.Common.{arith, ap, length-drop, drop_of_length-le, drop-cons}
use Rattle.rules.specs.declared.Arg.{Arg}
use Rattle.rules.specs.Outcome.{Finding, Fault, fault_at, fault_from}
use Rattle.rules.specs.Record.{Lent, whole, cut, wholes, judged, argument_records, flat_of}
use Rattle.laws.specs.Records.{next_numbers}
use Rattle.records.specs.Records.{records_of, no_arg}

-- ---- the records of a flat list

-- the record of three numbers from a place on
abbrev pub record_at : List ℕ → ℕ → Arg
record_at flat at = record { kind = get_or flat at 0; start = get_or flat (at + 1) 0; len = get_or flat (at + 2) 0 }

-- three numbers are a record
pub whole_count : (flat : List ℕ) → length (records_of flat) ≡ length flat / 3
unfolding records_of argument_records wholes
whole_count [] = refl
whole_count (a ∷ []) = refl
whole_count (a ∷ b ∷ []) = refl
whole_count (a ∷ b ∷ d ∷ flat) = omega (arith, whole_count flat)

-- what is left starts with the next record
pub next_lent : (flat : List ℕ) (i : ℕ) → i * 3 + 2 < length flat
    → argument_records (drop (i * 3) flat) ≡ whole (record_at flat (i * 3)) ∷ argument_records (drop ((i + 1) * 3) flat)
unfolding argument_records
next_lent flat i h =
    let e : i * 3 + 1 + 1 ≡ i * 3 + 2 = omega arith in
    let f : (i + 1) * 3 ≡ i * 3 + 3 = omega arith in
    rw (f, next_numbers flat (i * 3) 3 (omega arith), e)

-- behind the last record nothing is left
pub none_lent : (flat : List ℕ) (at : ℕ) → length flat ≤ at → argument_records (drop at flat) ≡ []
unfolding argument_records
none_lent flat at h = rw (drop_of_length-le flat h)

-- one or two numbers are a cut record
cut_lent : (flat : List ℕ) → 0 < length flat → length flat < 3 → argument_records flat ≡ cut ∷ []
unfolding argument_records
cut_lent [] h g = absurd (omega arith)
cut_lent (a ∷ []) h g = refl
cut_lent (a ∷ b ∷ []) h g = refl
cut_lent (a ∷ b ∷ d ∷ flat) h g = absurd (omega arith)

-- so a cut record is left where one or two numbers are
pub last_lent : (flat : List ℕ) (at : ℕ) → at < length flat → length flat < at + 3 → argument_records (drop at flat) ≡ cut ∷ []
last_lent flat at h g = cut_lent (drop at flat) (rw length-drop (omega arith)) (rw length-drop (omega arith))

-- one record more is three numbers more
three_more : (i : ℕ) → suc i * 3 ≡ suc (suc (suc (i * 3)))
three_more i = omega arith

-- what is left of the records are the records of what is left
records_left : (i : ℕ) (flat : List ℕ) → drop i (records_of flat) ≡ records_of (drop (i * 3) flat)
unfolding records_of argument_records wholes
records_left zero flat = refl
records_left (suc i) [] = rw (three_more i)
records_left (suc i) (a ∷ []) = rw (three_more i)
records_left (suc i) (a ∷ b ∷ []) = rw (three_more i)
records_left (suc i) (a ∷ b ∷ d ∷ flat) = rw (three_more i) (records_left i flat)

-- the record of an index
pub record_is : (flat : List ℕ) (i : ℕ) → i * 3 + 2 < length flat → record_at flat (i * 3) ≡ get_or (records_of flat) i no_arg
unfolding records_of wholes
record_is flat i h =
    let n = whole_count flat in
    let here : drop i (records_of flat) ≡ get_or (records_of flat) i no_arg ∷ drop (suc i) (records_of flat) = drop-cons (records_of flat) i no_arg (omega arith) in
    let next : records_of (drop (i * 3) flat) ≡ record_at flat (i * 3) ∷ records_of (drop ((i + 1) * 3) flat) = rw (next_lent flat i h) in
    let same = records_left i flat in
    cc

-- ---- the flat list of records

-- it holds these records, and no cut one
pub flat_records : (args : List Arg) → argument_records (flat_of args) ≡ map whole args
unfolding argument_records flat_of
flat_records [] = refl
flat_records (a ∷ args) = ap (λ (more : List (Lent Arg)). whole a ∷ more) (flat_records args)

-- whole records are those that they were made of
wholes_of : (args : List Arg) → wholes (map whole args) ≡ args
unfolding wholes
wholes_of [] = refl
wholes_of (a ∷ args) = ap (λ (more : List Arg). a ∷ more) (wholes_of args)

-- so its records are the records
pub flat_back : (args : List Arg) → records_of (flat_of args) ≡ args
unfolding records_of
flat_back args = rw (flat_records args, wholes_of args)

-- where none is cut, the fault of lent records is that of the records
pub faults_whole : (find : Arg → Finding) (place : ℕ) (args : List Arg) → fault_from (judged find) place (map whole args) ≡ fault_from find place args
unfolding fault_from
faults_whole find place [] = refl
faults_whole find place (a ∷ args) = ap (λ (more : Fault). fault_at place (find a) more) (faults_whole find (place + 1) args)
