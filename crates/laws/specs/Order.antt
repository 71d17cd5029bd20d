-- Orders of refusals: when a step of one refuses, when all let pass, and which refusals it can give. Assumes nothing.
use Rattle.std.specs.Prelude.{ℕ, ◌+◌, ◌≤◌, ◌<◌, ◌≡◌, refl, ◌↔◌, Bool, true, false, List, [], ◌∷◌, ◌++◌, ltb, eqb}
use Rattle.std.proofs.Common.{arith, ltb-true, ltb-false, lt-ltb, le-ltb, eq-eqb, ne_eqb, ◌∙◌}
use Rattle.rules.specs.Choice.{pick, any}
use Rattle.rules.specs.Outcome.{Outcome, done, refused, refuse, Finding, Fault, faultless, fault, first_fault, unless}
use Rattle.laws.specs.Choice.{clash, any_behind, any_front}
use Rattle.laws.specs.Fault.{Finds, Sound, FirstWrong, whose, first_wrong, all_sound}

-- ---- steps

infixr 2 ◌and◌
-- the one, and then the other
abbrev pub ◌and◌ : Type 0 → Type 0 → Type 0
A and B = A × B

-- the number is one of the first list and the place is 0, or it is one of the second and the place is a record's
abbrev pub given : List ℕ → List ℕ → ℕ → ℕ → Bool
given bare placed number place = pick (eqb place 0) (any (eqb number) bare) (any (eqb number) placed)

-- a step of an order of refusals: a number and its test; a number, the most that passes and a size; or a search over records
pub data Step : Type 1 where
  test : ℕ → Bool → Step
  most : ℕ → ℕ → ℕ → Step
  search_all : {A : Type 0} (numbers : List ℕ) (find : A → Finding) → Finds numbers find → List A → Step

-- the step refuses, or what follows decides
abbrev pub step : {A : Type 0} → Step → Outcome A → Outcome A
step (test number b) more = refuse number b more
step (most number limit size) more = refuse number (ltb limit size) more
step (search_all numbers find f records) more = unless (first_fault find records) more

-- the step lets pass
abbrev pub Passes : Step → Type 0
Passes (test number b) = b ≡ false
Passes (most number limit size) = size ≤ limit
Passes (search_all numbers find f records) = Sound find records

-- the numbers that the step gives at place 0
abbrev pub bare_of : Step → List ℕ
bare_of (test number b) = number ∷ []
bare_of (most number limit size) = number ∷ []
bare_of (search_all numbers find f records) = []

-- the numbers that the step gives at a record's place
abbrev pub placed_of : Step → List ℕ
placed_of (test number b) = []
placed_of (most number limit size) = []
placed_of (search_all numbers find f records) = numbers

-- ---- several steps

-- the steps one after another; where all let pass, what follows decides
abbrev pub onto : {A : Type 0} → List Step → Outcome A → Outcome A
onto [] more = more
onto (s ∷ steps) more = step s (onto steps more)

-- every step lets pass, and then
abbrev pub PassedAll : List Step → Type 0 → Type 0
PassedAll [] X = X
PassedAll (s ∷ steps) X = Passes s and PassedAll steps X

-- the numbers that the steps give at place 0
abbrev pub bare_of_all : List Step → List ℕ
bare_of_all [] = []
bare_of_all (s ∷ steps) = bare_of s ++ bare_of_all steps

-- the numbers that the steps give at a record's place
abbrev pub placed_of_all : List Step → List ℕ
placed_of_all [] = []
placed_of_all (s ∷ steps) = placed_of s ++ placed_of_all steps

-- ---- what can be given

-- what is given is given where there are more numbers
wider : (n p : ℕ) (bs ps bs' ps' : List ℕ) → (any (eqb n) bs ≡ true → any (eqb n) bs' ≡ true) → (any (eqb n) ps ≡ true → any (eqb n) ps' ≡ true)
    → given bs ps n p ≡ true → given bs' ps' n p ≡ true
wider n p bs ps bs' ps' f g = go (eqb p 0)
  where
    go : (z : Bool) → pick z (any (eqb n) bs) (any (eqb n) ps) ≡ true → pick z (any (eqb n) bs') (any (eqb n) ps') ≡ true
    go true = f
    go false = g

placed_given : (n i : ℕ) (bs ps : List ℕ) → given bs ps n (i + 1) ≡ any (eqb n) ps
placed_given n i bs ps = let e : eqb (i + 1) 0 ≡ false = ne_eqb (i + 1) 0 (omega arith) in rw e

-- a number that is in neither list is not given
pub ungiven : (number : ℕ) (bs ps : List ℕ) (place : ℕ) → any (eqb number) bs ≡ false → any (eqb number) ps ≡ false → ¬ (given bs ps number place ≡ true)
ungiven number bs ps place h g = go (eqb place 0)
  where
    go : (z : Bool) → ¬ (pick z (any (eqb number) bs) (any (eqb number) ps) ≡ true)
    go true e = clash _ e h
    go false e = clash _ e g

-- 0 is no number that is given
pub unnumbered : (bs ps : List ℕ) (place : ℕ) → any (eqb 0) bs ≡ false → any (eqb 0) ps ≡ false → ¬ (given bs ps 0 place ≡ true)
unnumbered = ungiven 0

-- ---- one step

-- a step lets pass, or gives a refusal that it can give
data Verdict (s : Step) {A : Type 0} (more : Outcome A) : Type 0 where
  lets : Passes s → step s more ≡ more → Verdict s more
  stops : (n p : ℕ) → given (bare_of s) (placed_of s) n p ≡ true → step s more ≡ refused n p → Verdict s more

turn : {A : Type 0} (s : Step) (more : Outcome A) → Verdict s more
turn (test n b) more = go b
  where
    go : (b : Bool) → Verdict (test n b) more
    go true = stops n 0 (rw (eq-eqb n n refl)) refl
    go false = lets refl refl
turn (most n limit size) more = go (ltb limit size) refl
  where
    go : (b : Bool) → ltb limit size ≡ b → Verdict (most n limit size) more
    go true e = stops n 0 (rw (eq-eqb n n refl)) (rw e)
    go false e = lets (ltb-false limit size e) (rw e)
turn (search_all numbers find f records) more = go (first_fault find records) refl
  where
    go : (r : Fault) → first_fault find records ≡ r → Verdict (search_all numbers find f records) more
    go faultless e = lets ((all_sound find records).0 e) (rw e)
    go (fault n p) e =
        let (i, place, w) = whose find n p records e in
        stops n p (rw (place, placed_given n i [] numbers) (f n w.one w.found)) (rw e)

passing : {A : Type 0} (s : Step) (more : Outcome A) → Passes s → step s more ≡ more
passing (test n b) more h = rw h
passing (most n limit size) more h = rw (le-ltb limit size h)
passing (search_all numbers find f records) more h = rw ((all_sound find records).1 h)

-- ---- where an outcome comes from

-- a refusal comes from what follows the steps, or it is one that they can give
data Whence (n p : ℕ) (steps : List Step) {A : Type 0} (more : Outcome A) : Type 0 where
  beyond : PassedAll steps (more ≡ refused n p) → Whence n p steps more
  within : given (bare_of_all steps) (placed_of_all steps) n p ≡ true → Whence n p steps more

module _ {A : Type 0} (more : Outcome A) where
  whence : (n p : ℕ) (steps : List Step) → onto steps more ≡ refused n p → Whence n p steps more
  whence n p [] e = beyond e
  whence n p (s ∷ steps) e = go (turn s (onto steps more)) (whence n p steps)
    where
      on : Passes s → Whence n p steps more → Whence n p (s ∷ steps) more
      on h (beyond q) = beyond (h, q)
      on h (within g) =
          within
          (wider n p (bare_of_all steps) (placed_of_all steps) (bare_of_all (s ∷ steps)) (placed_of_all (s ∷ steps))
          (any_behind (eqb n) (bare_of s) (bare_of_all steps))
          (any_behind (eqb n) (placed_of s) (placed_of_all steps))
          g)

      go : Verdict s (onto steps more) → (onto steps more ≡ refused n p → Whence n p steps more) → Whence n p (s ∷ steps) more
      go (lets h same) ih = on h (ih (cc))
      go (stops m q g same) ih =
          let number : m ≡ n = cc in
          let place : q ≡ p = cc in
          let g' = rw (number, place) at g in
          within
          (wider n p (bare_of s) (placed_of s) (bare_of_all (s ∷ steps)) (placed_of_all (s ∷ steps))
          (any_front (eqb n) (bare_of s) (bare_of_all steps))
          (any_front (eqb n) (placed_of s) (placed_of_all steps))
          g')

  -- a result comes from what follows the steps
  result : (a : A) (steps : List Step) → onto steps more ≡ done a → PassedAll steps (more ≡ done a)
  result a [] e = e
  result a (s ∷ steps) e = go (turn s (onto steps more)) (result a steps)
    where
      go : Verdict s (onto steps more) → (onto steps more ≡ done a → PassedAll steps (more ≡ done a)) → PassedAll (s ∷ steps) (more ≡ done a)
      go (lets h same) ih = (h, ih (cc))
      go (stops m q g same) ih = let z : ◌≡◌ {A = ℕ} 0 1 = cc in absurd (omega arith)

  -- where all steps let pass, what follows decides
  arrived : {o : Outcome A} (steps : List Step) → PassedAll steps (more ≡ o) → onto steps more ≡ o
  arrived [] e = e
  arrived (s ∷ steps) h = passing s (onto steps more) h.0 ∙ arrived steps h.1

-- what follows the steps
follows : {X : Type 0} (steps : List Step) → PassedAll steps X → X
follows [] h = h
follows (s ∷ steps) h = follows steps h.1

-- what follows from it, follows
turned : {X Y : Type 0} (steps : List Step) → (X → Y) → PassedAll steps X → PassedAll steps Y
turned [] f h = f h
turned (s ∷ steps) f h = (h.0, turned steps f h.1)

-- ---- exactly when

module _ {A : Type 0} (a : A) where
  -- only the numbers of its steps are given, each with a place of its kind
  pub only : (steps : List Step) (n p : ℕ) → onto steps (done a) ≡ refused n p → given (bare_of_all steps) (placed_of_all steps) n p ≡ true
  only steps n p e = go (whence (done a) n p steps e)
    where
      go : Whence n p steps (done a) → given (bare_of_all steps) (placed_of_all steps) n p ≡ true
      go (beyond q) = let f = follows steps q in cc
      go (within g) = g

  -- a result is given exactly where every step lets pass
  pub accepted : (steps : List Step) (r : A) → (onto steps (done a) ≡ done r) ↔ PassedAll steps (a ≡ r)
  accepted steps r = (
    λ e. turned steps (λ (f : done a ≡ done r). cc) (result (done a) r steps e),
    λ h. arrived (done a) steps (turned steps (λ (f : a ≡ r). rw f) h),
  )

  reached : {X : Type 0} (n p : ℕ) (before after : List Step) (here : Outcome A → Outcome A)
      → given (bare_of_all before) (placed_of_all before) n p ≡ false → given (bare_of_all after) (placed_of_all after) n p ≡ false
      → ((more : Outcome A) → ¬ (more ≡ refused n p) → (here more ≡ refused n p) ↔ X)
      → (onto before (here (onto after (done a))) ≡ refused n p) ↔ PassedAll before X
  reached {X} n p before after here quiet still exact =
      (λ e. go (whence (here (onto after (done a))) n p before e), λ h. arrived (here (onto after (done a))) before (turned before hits.1 h))
    where
      hits : (here (onto after (done a)) ≡ refused n p) ↔ X
      hits = exact (onto after (done a)) λ e. clash _ (only after n p e) still

      go : Whence n p before (here (onto after (done a))) → PassedAll before X
      go (beyond q) = turned before hits.0 q
      go (within g) = clash _ g quiet

  -- a test refuses exactly where no step before it does and it holds
  pub refused_test : (n : ℕ) (before : List Step) (b : Bool) (after : List Step)
      → any (eqb n) (bare_of_all before) ≡ false → any (eqb n) (bare_of_all after) ≡ false
      → (onto before (refuse n b (onto after (done a))) ≡ refused n 0) ↔ PassedAll before (b ≡ true)
  refused_test n before b after quiet still = reached n 0 before after (refuse n b) quiet still (λ more else. (go more else b, λ e. rw e))
    where
      go : (more : Outcome A) → ¬ (more ≡ refused n 0) → (b : Bool) → refuse n b more ≡ refused n 0 → b ≡ true
      go more else true e = refl
      go more else false e = absurd (else e)

  -- a limit refuses exactly where no step before it does and the size is more
  pub refused_most : (n : ℕ) (before : List Step) (limit size : ℕ) (after : List Step)
      → any (eqb n) (bare_of_all before) ≡ false → any (eqb n) (bare_of_all after) ≡ false
      → (onto before (refuse n (ltb limit size) (onto after (done a))) ≡ refused n 0) ↔ PassedAll before (limit < size)
  refused_most n before limit size after quiet still =
      let r = refused_test n before (ltb limit size) after quiet still in
      (λ e. turned before (ltb-true limit size) (r.0 e), λ h. r.1 (turned before (lt-ltb limit size) h))

  -- a search refuses at a record's place exactly where no step before it does and that record is the first at fault
  pub refused_search : {R : Type 0} (n i : ℕ) (before : List Step) (find : R → Finding) (records : List R) (after : List Step)
      → any (eqb n) (placed_of_all before) ≡ false → any (eqb n) (placed_of_all after) ≡ false
      → (onto before (unless (first_fault find records) (onto after (done a))) ≡ refused n (i + 1)) ↔ PassedAll before (FirstWrong find n i records)
  refused_search n i before find records after quiet still =
      reached n (i + 1) before after (unless (first_fault find records))
      (rw (placed_given n i (bare_of_all before) (placed_of_all before)) quiet)
      (rw (placed_given n i (bare_of_all after) (placed_of_all after)) still)
      (λ more else. (λ e. (first_wrong find n i records).0 (go more else (first_fault find records) e), λ w. rw ((first_wrong find n i records).1 w)))
    where
      go : (more : Outcome A) → ¬ (more ≡ refused n (i + 1)) → (f : Fault) → unless f more ≡ refused n (i + 1) → f ≡ fault n (i + 1)
      go more else faultless e = absurd (else e)
      go more else (fault m p) e = let number : m ≡ n = cc in let place : p ≡ i + 1 = cc in rw (number, place)
