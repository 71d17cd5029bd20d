-- What an answer says names it, so a contract allows one answer and one content of lent memory. Assumes nothing.
use Rattle.std.specs.Prelude.{ℕ, ◌≡◌, refl, false, List, eqb, Result, Ok, Err}
use Rattle.std.proofs.Common.{sym, ap, ◌∙◌}
use Rattle.rules.specs.declared.Refusal.{Refusal}
use Rattle.rules.specs.declared.Line.{Line}
use Rattle.rules.specs.declared.Arguments.{Arguments}
use Rattle.rules.specs.declared.Entries.{Entries}
use Rattle.rules.specs.declared.Cached.{Cached}
use Rattle.rules.specs.Choice.{pick}
use Rattle.rules.specs.Outcome.{Outcome, done, refused}
use Rattle.rules.specs.Record.{Entry}
use Rattle.rules.specs.Answer.{Said, refusal_number, refusal_place, refusal_said, built_said, filled_said, parsed_said, listed_said, Answered, Read, Listing}
use Rattle.rules.specs.Cache.{Served, missed, hit, held, stored}
use Rattle.rules.specs.Store.{cached_said}

-- ---- back from what is said to the answer

-- the refusal of a number and a place
unfoldable pub refusal_of : ℕ → ℕ → Refusal
refusal_of number place =
    pick (eqb number 1) (Refusal.Record place)
    (pick (eqb number 2) Refusal.Length
    (pick (eqb number 3) Refusal.Places
    (pick (eqb number 4) Refusal.Room
    (pick (eqb number 5) (Refusal.Nul place)
    (pick (eqb number 6) (Refusal.LineBreak place) (pick (eqb number 7) Refusal.Script (Refusal.Entry place)))))))

-- every refusal is that of its number and its place
pub refusal_back : (r : Refusal) → refusal_of (refusal_number r) (refusal_place r) ≡ r
unfolding refusal_of
refusal_back (Refusal.Record place) = refl
refusal_back Refusal.Length = refl
refusal_back Refusal.Places = refl
refusal_back Refusal.Room = refl
refusal_back (Refusal.Nul place) = refl
refusal_back (Refusal.LineBreak place) = refl
refusal_back Refusal.Script = refl
refusal_back (Refusal.Entry place) = refl

-- the answer of a builder of lines that says so
unfoldable built_of : Said → Result Line Refusal
built_of s = pick (eqb s.number 0) (Ok (record { units = s.units })) (Err (refusal_of s.number s.place))

-- the answer of a writer of other units that says so
unfoldable filled_of : Said → Result ℕ Refusal
filled_of s = pick (eqb s.number 0) (Ok s.units) (Err (refusal_of s.number s.place))

-- the reader's answer that says so
unfoldable parsed_of : Said → Result Arguments Refusal
parsed_of s = pick (eqb s.number 0) (Ok (record { count = s.arguments; units = s.units })) (Err (refusal_of s.number s.place))

-- the block reader's answer that says so
unfoldable listed_of : Said → Result Entries Refusal
listed_of s = pick (eqb s.number 0) (Ok (record { count = s.arguments; units = s.units })) (Err (refusal_of s.number s.place))

-- a refusal's number is not 0
pub some_number : (r : Refusal) → eqb (refusal_number r) 0 ≡ false
some_number (Refusal.Record place) = refl
some_number Refusal.Length = refl
some_number Refusal.Places = refl
some_number Refusal.Room = refl
some_number (Refusal.Nul place) = refl
some_number (Refusal.LineBreak place) = refl
some_number Refusal.Script = refl
some_number (Refusal.Entry place) = refl

built_back : (r : Result Line Refusal) → built_of (built_said r) ≡ r
unfolding built_of
built_back (Ok line) = refl
built_back (Err r) = rw (some_number r, refusal_back r)

filled_back : (r : Result ℕ Refusal) → filled_of (filled_said r) ≡ r
unfolding filled_of
filled_back (Ok units) = refl
filled_back (Err r) = rw (some_number r, refusal_back r)

parsed_back : (r : Result Arguments Refusal) → parsed_of (parsed_said r) ≡ r
unfolding parsed_of
parsed_back (Ok arguments) = refl
parsed_back (Err r) = rw (some_number r, refusal_back r)

listed_back : (r : Result Entries Refusal) → listed_of (listed_said r) ≡ r
unfolding listed_of
listed_back (Ok entries) = refl
listed_back (Err r) = rw (some_number r, refusal_back r)

-- ---- what is said names the answer

-- two refusals that say the same are one
pub refusal_one : (r r' : Refusal) → refusal_said r ≡ refusal_said r' → r ≡ r'
refusal_one r r' e = sym (refusal_back r) ∙ ap (λ (s : Said). refusal_of s.number s.place) e ∙ refusal_back r'

-- what is said of answers of a kind names the answer: two that say the same are one
abbrev pub Telling : {A : Type 0} → (A → Said) → Type 0
Telling {A} said = (r r' : A) → said r ≡ said r' → r ≡ r'

-- an answer that is found again from what it says is named by it
named : {A : Type 0} {said : A → Said} (back : Said → A) → ((r : A) → back (said r) ≡ r) → Telling said
named back found r r' e = sym (found r) ∙ ap back e ∙ found r'

-- so it is for lines
pub built_one : Telling built_said
built_one = named built_of built_back

-- so it is for other units
pub filled_one : Telling filled_said
filled_one = named filled_of filled_back

-- so it is for the reader
pub parsed_one : Telling parsed_said
parsed_one = named parsed_of parsed_back

-- so it is for the block reader
pub listed_one : Telling listed_said
listed_one = named listed_of listed_back

-- ---- a contract allows one answer and one content of lent memory

-- any two answers of a writer to one outcome, and what they leave of one output, are equal
abbrev pub OneAnswer : {A : Type 0} → (A → Said) → Outcome (List ℕ) → List ℕ → Type 0
OneAnswer {A} said o before =
    (r r' : A) (after after' : List ℕ) → Answered o (said r) before after → Answered o (said r') before after' → (r ≡ r') × (after ≡ after')

-- a writer's contract allows one, whatever the outcome, where what is said names the answer
pub answered_once : {A : Type 0} {said : A → Said} → Telling said → (o : Outcome (List ℕ)) (before : List ℕ) → OneAnswer said o before
answered_once tells o before r r' after after' a b = (tells r r' (a.says ∙ sym b.says), a.leaves ∙ sym b.leaves)

-- any two answers of the reader to one outcome, and what they leave of one output and of one table, are equal
abbrev pub OneReading : Outcome (List (List ℕ)) → List ℕ → List ℕ → Type 0
OneReading o text spans =
    (r r' : Result Arguments Refusal) (text' text'' spans' spans'' : List ℕ) → Read o r text text' spans spans' → Read o r' text text'' spans spans''
    → (r ≡ r') × (text' ≡ text'') × (spans' ≡ spans'')

-- the reader's contract allows one, whatever the outcome
pub read_once : (o : Outcome (List (List ℕ))) (text spans : List ℕ) → OneReading o text spans
read_once o text spans r r' text' text'' spans' spans'' a b =
    (parsed_one r r' (a.says ∙ sym b.says), a.leaves ∙ sym b.leaves, a.tabulates ∙ sym b.tabulates)

-- any two answers of the block reader to one outcome, and what they leave of one table, are equal
abbrev pub OneListing : Outcome (List Entry) → List ℕ → Type 0
OneListing o spans = (r r' : Result Entries Refusal) (spans' spans'' : List ℕ) → Listing o r spans spans' → Listing o r' spans spans'' → (r ≡ r') × (spans' ≡ spans'')

-- the block reader's contract allows one, whatever the outcome
pub listed_once : (o : Outcome (List Entry)) (spans : List ℕ) → OneListing o spans
listed_once o spans r r' spans' spans'' a b = (listed_one r r' (a.says ∙ sym b.says), a.tabulates ∙ sym b.tabulates)

-- ---- the launch line cache

-- the answer of a call of the cache that says so
cached_of : Outcome Served → Result Cached Refusal
unfolding refusal_of
cached_of (done missed) = Ok Cached.Missed
cached_of (done (hit start size)) = Ok (Cached.Hit start size)
cached_of (done (held start size)) = Ok (Cached.Held start size)
cached_of (done (stored start size)) = Ok (Cached.Stored start size)
cached_of (refused number place) = Err (refusal_of number place)

cached_back : (r : Result Cached Refusal) → cached_of (cached_said r) ≡ r
unfolding cached_of
cached_back (Ok Cached.Missed) = refl
cached_back (Ok (Cached.Hit start size)) = refl
cached_back (Ok (Cached.Held start size)) = refl
cached_back (Ok (Cached.Stored start size)) = refl
cached_back (Err r) = ap Err (refusal_back r)

-- answers of the cache that say the same are one
pub cached_one : (r r' : Result Cached Refusal) → cached_said r ≡ cached_said r' → r ≡ r'
cached_one r r' e = sym (cached_back r) ∙ ap cached_of e ∙ cached_back r'
