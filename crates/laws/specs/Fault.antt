-- The first record at fault, for any list of records: whole or cut ones, arguments, entries. Assumes nothing.
use Prim.Native.Nat.{ℕ, zero, suc, ◌+◌}
use native.Mathlib.Omega.{arith}
use Rattle.std.proofs.Common.{add-zero, eq-eqb, ◌∙◌}
use Rattle.std.specs.Prelude.{◌≡◌, ◌↔◌, Bool, true, false, eqb, take}
use Rattle.std.proofs.Math.Path.{refl}
use Rattle.std.proofs.Math.Option.{some}
use mathlib.Core.List.{List, [], ◌∷◌}
use Rattle.std.proofs.Math.ListN.{get_elem?}
use Rattle.rules.specs.Choice.{any}
use Rattle.rules.specs.Outcome.{Finding, Fault, sound, wrong, wrong_if, faultless, fault, fault_from, first_fault}
use Rattle.rules.specs.Record.{whole, cut, judged}

-- ---- findings

-- what a record can be found wrong by
abbrev pub Finds : {A : Type 0} → List ℕ → (A → Finding) → Type 0
Finds {A} numbers find = (number : ℕ) (a : A) → find a ≡ wrong number → any (eqb number) numbers ≡ true

-- a test finds its own number, or what follows finds
pub found_if : (numbers : List ℕ) (m : ℕ) (b : Bool) (more : Finding) (number : ℕ) → any (eqb m) numbers ≡ true
    → (more ≡ wrong number → any (eqb number) numbers ≡ true) → wrong_if m b more ≡ wrong number → any (eqb number) numbers ≡ true
found_if numbers m true more number own next e = let same : number ≡ m = cc in rw same own
found_if numbers m false more number own next e = next e

-- where one test is made, its number alone is found
pub found_once : (m : ℕ) (b : Bool) (number : ℕ) → wrong_if m b sound ≡ wrong number → any (eqb number) (m ∷ []) ≡ true
found_once m b number e = found_if (m ∷ []) m b sound number (rw (eq-eqb m m refl)) (λ f. cc) e

-- a test finds its number exactly where it holds, if what follows does not find that number
pub found_exactly : (m : ℕ) (b : Bool) (more : Finding) → ¬ (more ≡ wrong m) → (wrong_if m b more ≡ wrong m) ↔ (b ≡ true)
found_exactly m b more else = (go b, λ e. rw e)
  where
    go : (b : Bool) → wrong_if m b more ≡ wrong m → b ≡ true
    go true e = refl
    go false e = absurd (else e)

-- nothing wrong is not a number
pub sound_not : (m : ℕ) → ¬ (sound ≡ wrong m)
sound_not m e = let z : ◌≡◌ {A = ℕ} 0 1 = cc in omega arith

-- where one test is made and nothing is found, it does not hold
pub passed_once : (m : ℕ) (b : Bool) → wrong_if m b sound ≡ sound → b ≡ false
passed_once m true e = cc
passed_once m false e = refl

-- of whole and cut records, 1 is found where it is of whole ones
pub found_lent : {A : Type 0} (find : A → Finding) → Finds (1 ∷ []) find → Finds (1 ∷ []) (judged find)
found_lent find f number (whole a) e = f number a e
found_lent find f number cut e = let same : number ≡ 1 = cc in rw same

-- ---- the first record at fault

-- nothing is wrong with any record of the list
abbrev pub Sound : {A : Type 0} → (A → Finding) → List A → Type 0
Sound find [] = Unit
Sound find (a ∷ more) = (find a ≡ sound) × Sound find more

-- record i is the first at fault: it is wrong by the number, and every earlier record is sound
pub record FirstWrong {A : Type 0} (find : A → Finding) (number i : ℕ) (records : List A) : Type 0 where
  pub one : A
  pub stands : get_elem? records i ≡ some one
  pub found : find one ≡ wrong number
  pub earlier : Sound find (take i records)

-- a search does not both find a fault and find none
pub never : {number place : ℕ} {B : Type 0} → faultless ≡ fault number place → B
never e = let z : ◌≡◌ {A = ℕ} 0 1 = cc in absurd (omega arith)

module _ {A : Type 0} (find : A → Finding) where
  -- what a search finds: nothing, or the first record at fault
  data Search (place : ℕ) (records : List A) : Type 0 where
    clear : Sound find records → fault_from find place records ≡ faultless → Search place records
    caught : (number i : ℕ) → FirstWrong find number i records → fault_from find place records ≡ fault number (place + i) → Search place records

  searched_on : (place : ℕ) (a : A) (more : List A) → find a ≡ sound → Search (place + 1) more → Search place (a ∷ more)
  unfolding fault_from
  searched_on place a more e (clear s f) = clear (e, s) (rw e f)
  searched_on place a more e (caught number i w f) =
      let g : place + 1 + i ≡ place + suc i = omega arith in
      caught number (suc i) (record { one = w.one; stands = w.stands; found = w.found; earlier = (e, w.earlier) }) (rw e (f ∙ rw g))

  search_from : (place : ℕ) (records : List A) → Search place records
  unfolding fault_from
  search_from place [] = clear tt refl
  search_from place (a ∷ more) = go (find a) refl (search_from (place + 1) more)
    where
      go : (f : Finding) → find a ≡ f → Search (place + 1) more → Search place (a ∷ more)
      go sound e rest = searched_on place a more e rest
      go (wrong number) e rest = caught number 0 (record { one = a; stands = refl; found = e; earlier = tt }) (rw (e, add-zero))

  fault_from_lem : (place number i : ℕ) (records : List A) → FirstWrong find number i records → fault_from find place records ≡ fault number (place + i)
  unfolding fault_from
  fault_from_lem place number i [] w = cc
  fault_from_lem place number zero (a ∷ more) w = let e : find a ≡ wrong number = cc in rw (e, add-zero)
  fault_from_lem place number (suc i) (a ∷ more) w =
      let g : place + 1 + i ≡ place + suc i = omega arith in
      rw w.earlier.0
      (fault_from_lem (place + 1) number i more (record { one = w.one; stands = w.stands; found = w.found; earlier = w.earlier.1 }) ∙ rw g)

  sound_from : (place : ℕ) (records : List A) → Sound find records → fault_from find place records ≡ faultless
  unfolding fault_from
  sound_from place [] s = refl
  sound_from place (a ∷ more) s = rw s.0 (sound_from (place + 1) more s.1)

  -- a fault that is found has a record's index plus 1 for its place, and that record is the first at fault
  pub whose : (number place : ℕ) (records : List A) → first_fault find records ≡ fault number place
      → (i : ℕ) × (place ≡ i + 1) × FirstWrong find number i records
  whose number place records = go (search_from 1 records)
    where
      go : Search 1 records → first_fault find records ≡ fault number place → (i : ℕ) × (place ≡ i + 1) × FirstWrong find number i records
      go (clear s f) e = never {number = number} {place = place} (cc)
      go (caught m j w f) e =
          let numbers : m ≡ number = cc in
          let places : 1 + j ≡ place = cc in
          (j, omega arith, rw (← numbers) w)

  -- a fault is found, with its record's index plus 1 for the place, exactly if that record is the first at fault
  pub first_wrong : (number i : ℕ) (records : List A) → first_fault find records ≡ fault number (i + 1) ↔ FirstWrong find number i records
  first_wrong number i records = (λ e. same (whose number (i + 1) records e), λ w. fault_from_lem 1 number i records w ∙ rw one_more)
    where
      one_more : 1 + i ≡ i + 1
      one_more = omega arith

      same : (j : ℕ) × (i + 1 ≡ j + 1) × FirstWrong find number j records → FirstWrong find number i records
      same (j, e, w) = let index : j ≡ i = omega arith in rw (← index) w

  -- no fault is found exactly if every record is sound
  pub all_sound : (records : List A) → first_fault find records ≡ faultless ↔ Sound find records
  all_sound records = (go (search_from 1 records), sound_from 1 records)
    where
      go : Search 1 records → first_fault find records ≡ faultless → Sound find records
      go (clear s f) e = s
      go (caught m j w f) e = never {number = m} {place = 1 + j} (cc)

-- ---- a fault by its place

-- a fault by its number and its place; 0 is no place
abbrev pub placed : ℕ → ℕ → Fault
placed number zero = faultless
placed number (suc place) = fault number (suc place)

-- place 0 is no fault
pub no_place : {f : Fault} (number : ℕ) {place : ℕ} → f ≡ placed number place → place ≡ 0 → f ≡ faultless
no_place number h z = rw z at h
