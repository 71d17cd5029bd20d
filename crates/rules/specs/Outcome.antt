-- What an entry point comes to: a result, or a refusal by its number and its place. Assumes nothing.
-- "A refusal carries the number and a place: the record's index plus 1 where a record, a cut one too, is at fault, else 0.
-- Its counts are 0 and no lent unit or table place changes."
use Rattle.std.specs.Prelude.{ℕ, ◌+◌, Bool, true, false, List, [], ◌∷◌, ◌++◌, ltb, length, drop}

-- a result, or a refusal's number and place
pub data Outcome (A : Type 0) : Type 0 where
  done : A → Outcome A
  refused : ℕ → ℕ → Outcome A

-- refused by the number at place 0 where the test holds; else what follows decides
abbrev pub refuse : {A : Type 0} → ℕ → Bool → Outcome A → Outcome A
refuse number true more = refused number 0
refuse number false more = more

-- ---- records at fault

-- what is found wrong with one record: nothing, or a refusal's number
pub data Finding : Type 0 where
  sound : Finding
  wrong : ℕ → Finding

-- wrong by the number where the test holds; else what follows decides
abbrev pub wrong_if : ℕ → Bool → Finding → Finding
wrong_if number true more = wrong number
wrong_if number false more = more

-- what is found wrong with a list of records: nothing, or a refusal's number and place
pub data Fault : Type 0 where
  faultless : Fault
  fault : ℕ → ℕ → Fault

-- a finding at a place; where nothing is wrong there, what follows decides
abbrev pub fault_at : ℕ → Finding → Fault → Fault
fault_at place sound more = more
fault_at place (wrong number) more = fault number place

-- the first record at fault, where the first of the list has the place given
unfoldable pub fault_from : {A : Type 0} → (A → Finding) → ℕ → List A → Fault
fault_from find place [] = faultless
fault_from find place (a ∷ more) = let next = fault_from find (place + 1) more in fault_at place (find a) next

-- the first record at fault, lowest index first; its place is its index plus 1
abbrev pub first_fault : {A : Type 0} → (A → Finding) → List A → Fault
first_fault find records = fault_from find 1 records

-- refused where a fault was found; else what follows decides
abbrev pub unless : {A : Type 0} → Fault → Outcome A → Outcome A
unless faultless more = more
unless (fault number place) more = refused number place

-- ---- the limit, the room, and what the lent units hold afterwards

-- 2 where the whole result has more units than the limit, then 4 where the output has fewer than it needs:
-- "Room is judged on the whole result, never on a part."
abbrev pub limited : ℕ → ℕ → List ℕ → Outcome (List ℕ)
limited limit room whole = refuse 2 (ltb limit (length whole)) (refuse 4 (ltb room (length whole)) (done whole))

-- "the result fills the front of the output .. ; everything behind it keeps its content"
abbrev pub over : List ℕ → List ℕ → List ℕ
over lent result = result ++ drop (length result) lent

-- lent units afterwards: on success the result lies over them, a refusal changes nothing
abbrev pub filled : List ℕ → Outcome (List ℕ) → List ℕ
filled lent (done result) = over lent result
filled lent (refused number place) = lent
