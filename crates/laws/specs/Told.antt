-- From an answer back to the outcome that it says, and to what lies in lent memory. Assumes nothing.
use Rattle.std.specs.Prelude.{ℕ, ◌*◌, ◌≤◌, ◌≡◌, refl, false, List, length, eqb, Ok, Err}
use Rattle.std.proofs.Common.{arith, sym, ap}
use Rattle.rules.specs.declared.Refusal.{Refusal}
use Rattle.rules.specs.Outcome.{Outcome, done, refused}
use Rattle.rules.specs.Record.{Entry}
use Rattle.rules.specs.Reading.{joined, spans_of, places_of}
use Rattle.rules.specs.BlockReading.{units_used, entry_spans}
use Rattle.rules.specs.Answer.{Said, refusal, wrote, gave, refusal_said, Answered, Read, Listing}
use Rattle.laws.specs.Answer.{some_number}
use Rattle.laws.specs.Front.{Front, over_front}
use Rattle.laws.specs.Span.{spans_length}
use Rattle.laws.specs.EntrySpans.{entry_spans_length}

-- ---- a refusal

-- the outcome is a refusal, and the answer says its number and its place; all counts are 0
pub record Refusing {A : Type 0} (o : Outcome A) (q : Refusal) : Type 0 where
  pub number : ℕ
  pub place : ℕ
  pub decided : o ≡ refused number place
  pub said : refusal_said q ≡ refusal number place

-- a refusal does not say what a result says
no_result : (q : Refusal) {arguments units : ℕ} {B : Type 0} → refusal_said q ≡ gave arguments units → B
no_result q e =
    let n : (refusal_said q).number ≡ 0 = ap (λ (s : Said). s.number) e in
    let f : eqb 0 0 ≡ false = rw n at (some_number q) in
    let z : ◌≡◌ {A = ℕ} 0 1 = cc in
    absurd (omega arith)

-- a writer that answers with a refusal leaves the output as it was
pub told_refused : (o : Outcome (List ℕ)) {q : Refusal} {before after : List ℕ} → Answered o (refusal_said q) before after
    → Refusing o q × (after ≡ before)
told_refused (done result) {q} a = no_result q a.says
told_refused (refused number place) a = (record { number = number; place = place; decided = refl; said = a.says }, a.leaves)

-- a reader that answers with a refusal leaves output and table as they were
pub told_unread : (o : Outcome (List (List ℕ))) {q : Refusal} {text text' spans spans' : List ℕ} → Read o (Err q) text text' spans spans'
    → Refusing o q × (text' ≡ text) × (spans' ≡ spans)
told_unread (done args) {q} a = no_result q a.says
told_unread (refused number place) a = (record { number = number; place = place; decided = refl; said = a.says }, a.leaves, a.tabulates)

-- a block reader that answers with a refusal leaves the table as it was
pub told_unlisted : (o : Outcome (List Entry)) {q : Refusal} {spans spans' : List ℕ} → Listing o (Err q) spans spans'
    → Refusing o q × (spans' ≡ spans)
told_unlisted (done entries) {q} a = no_result q a.says
told_unlisted (refused number place) a = (record { number = number; place = place; decided = refl; said = a.says }, a.tabulates)

-- ---- a result

-- the outcome is a result of n units, which are the front of the output
pub record Writing (o : Outcome (List ℕ)) (n : ℕ) (before after : List ℕ) : Type 0 where
  pub result : List ℕ
  pub made : o ≡ done result
  pub lies : Front n result before after

-- the outcome is a list of arguments; their texts are the front of the output, their spans the front of the table
pub record Giving (o : Outcome (List (List ℕ))) (count units : ℕ) (text text' spans spans' : List ℕ) : Type 0 where
  pub args : List (List ℕ)
  pub made : o ≡ done args
  pub counted : length args ≡ count
  pub texts : Front units (joined args) text text'
  pub table : Front (2 * count) (spans_of args) spans spans'

-- the outcome is a list of entries that take so many units; their spans are the front of the table
pub record Naming (o : Outcome (List Entry)) (count units : ℕ) (spans spans' : List ℕ) : Type 0 where
  pub entries : List Entry
  pub made : o ≡ done entries
  pub counted : length entries ≡ count
  pub used : units_used entries ≡ units
  pub table : Front (4 * count) (entry_spans entries) spans spans'

-- a writer that answers with a count wrote so many units, where no refusal has the number 0 and a result has room
pub told_written : (o : Outcome (List ℕ)) {n : ℕ} {before after : List ℕ} → ((place : ℕ) → ¬ (o ≡ refused 0 place))
    → ((result : List ℕ) → o ≡ done result → length result ≤ length before) → Answered o (wrote n) before after → Writing o n before after
told_written (done result) {n} {before} never fits a =
    let e : n ≡ length result = ap (λ (s : Said). s.units) a.says in
    record { result = result; made = refl; lies = rw (e, a.leaves) (over_front before result (fits result refl)) }
told_written (refused number place) never fits a =
    let e : 0 ≡ number = ap (λ (s : Said). s.number) a.says in
    absurd (never place (rw (← e)))

-- and the reader likewise
pub told_given : (o : Outcome (List (List ℕ))) {count units : ℕ} {text text' spans spans' : List ℕ} → ((place : ℕ) → ¬ (o ≡ refused 0 place))
    → ((args : List (List ℕ)) → o ≡ done args → (length (joined args) ≤ length text) × (length args ≤ places_of (length spans)))
    → Read o (Ok (record { count = count; units = units })) text text' spans spans' → Giving o count units text text' spans spans'
told_given (done args) {count} {units} {text} {spans = spans} never fits a =
    let e : count ≡ length args = ap (λ (s : Said). s.arguments) a.says in
    let f : units ≡ length (joined args) = ap (λ (s : Said). s.units) a.says in
    let (h, g) = fits args refl in
    let wide : length (spans_of args) ≤ length spans = rw (spans_length 0 args) (omega arith) in
    record {
      args = args;
      made = refl;
      counted = sym e;
      texts = rw (f, a.leaves) (over_front text (joined args) h);
      table = rw (e, a.tabulates, ← spans_length 0 args) (over_front spans (spans_of args) wide);
    }
told_given (refused number place) never fits a =
    let e : 0 ≡ number = ap (λ (s : Said). s.number) a.says in
    absurd (never place (rw (← e)))

-- and the block reader
pub told_listed : (o : Outcome (List Entry)) {count units : ℕ} {spans spans' : List ℕ} → ((place : ℕ) → ¬ (o ≡ refused 0 place))
    → ((entries : List Entry) → o ≡ done entries → 2 * length entries ≤ places_of (length spans))
    → Listing o (Ok (record { count = count; units = units })) spans spans' → Naming o count units spans spans'
told_listed (done entries) {count} {spans = spans} never fits a =
    let e : count ≡ length entries = ap (λ (s : Said). s.arguments) a.says in
    let wide : length (entry_spans entries) ≤ length spans = rw (entry_spans_length 0 entries) (omega (arith, fits entries refl)) in
    record {
      entries = entries;
      made = refl;
      counted = sym e;
      used = sym (ap (λ (s : Said). s.units) a.says);
      table = rw (e, a.tabulates, ← entry_spans_length 0 entries) (over_front spans (entry_spans entries) wide);
    }
told_listed (refused number place) never fits a =
    let e : 0 ≡ number = ap (λ (s : Said). s.number) a.says in
    absurd (never place (rw (← e)))
