-- The outcome of reading: which answer is given, and what the lent memory holds afterwards. Assumes nothing.
use Rattle.std.specs.Prelude.{Result, Ok}
use mathlib.Core.Path.{◌≡◌, refl, ap, ◌∙◌}
use mathlib.Core.Bool.{Bool, true, false}
use mathlib.Core.List.{List, [], ◌∷◌, append-nil}
use Prim.Native.Nat.{ℕ, zero, suc, ◌+◌, ◌*◌, ◌/◌, ◌≤◌, ◌<◌}
use native.Mathlib.Omega.{arith}
use lib.ListN.{length, take}
use lib.Seq.{sets, length-take-le}
use lib.Dec.{eqb, eqb-suc-zero, leb}
use borrow.Author.Tests.{lt-ltb, le-ltb, leb-true}
use Rattle.rules.specs.declared.Refusal.{Refusal}
use Rattle.rules.specs.declared.Arguments.{Arguments}
use Rattle.rules.specs.Choice.{pick, flip, is_empty}
use Rattle.rules.specs.Unit.{is_nul}
use Rattle.rules.specs.Outcome.{Outcome, done, refused}
use Rattle.rules.specs.Reading.{line_of, arguments, arguments_read, units_read, read_limit, joined, spans_of, places_of, reading}
use Rattle.rules.specs.Answer.{refusal, parsed_said, Read}
use Rattle.laws.specs.Scan.{leading, before, leading_in}
use Rattle.laws.specs.Choice.{both_true}
use Rattle.laws.specs.Extent.{read_extent}
use Rattle.laws.specs.Span.{spans_length}
use Rattle.laws.specs.Store.{sets_front}
use Rattle.reading.specs.Laid.{Laid, line_arguments}
use Rattle.reading.specs.House.{Housed, housed, sure}

-- ---- the line

-- the line is the part before the first NUL
line_is : (xs : List ℕ) → line_of xs ≡ take (before is_nul xs) xs
unfolding line_of leading
line_is [] = refl
line_is (x ∷ xs) = go (is_nul x) (line_is xs)
  where
    go : (b : Bool) → line_of xs ≡ take (before is_nul xs) xs → pick b [] (x ∷ line_of xs) ≡ take (pick (flip b) (suc (before is_nul xs)) 0) (x ∷ xs)
    go true h = refl
    go false h = ap (λ (l : List ℕ). x ∷ l) h

module _ (executable xs : List ℕ) (n : ℕ) (e : n ≡ before is_nul xs) where
  -- it has as many units as the scan finds
  pub line_length : length (take n xs) ≡ n
  line_length = length-take-le n xs (rw e (leading_in (λ x. flip (is_nul x)) xs))

  -- the arguments are those of this part
  arguments_are : line_arguments (take n xs) executable ≡ arguments_read executable xs
  unfolding line_arguments arguments_read
  arguments_are = rw (line_is xs, e)

  -- the limit counts so many units
  pub units_are : length (units_read executable xs) ≡ pick (eqb n 0) (length executable) n
  unfolding units_read
  units_are = rw (line_is xs, ← e) (go (take n xs) line_length)
    where
      go : (line : List ℕ) → length line ≡ n → length (pick (is_empty line) executable line) ≡ pick (eqb n 0) (length executable) n
      go [] l = rw (← l)
      go (x ∷ line) l = rw (← l, eqb-suc-zero)

-- a line that is not too long has few units, and so has the executable name where the line is empty
pub short : (n m : ℕ) → pick (eqb n 0) m n ≤ 32767 → (n ≤ 32767) × (n ≡ 0 → m ≤ 32767)
short zero m h = (omega arith, λ _. h)
short (suc n) m h = (rw eqb-suc-zero at h, λ z. absurd (omega arith))

-- ---- what is laid out

-- the arguments of an empty line
pub name_laid : (line executable : List ℕ) {text text' spans spans' : List ℕ} → length line ≡ 0 → text' ≡ sets text 0 executable
    → spans' ≡ sets spans (2 * 0) (0 ∷ length executable ∷ []) → Laid (line_arguments line executable) text text' spans spans' 1 (length executable)
unfolding line_arguments
name_laid [] executable {text} z t s = record { counts = refl; measures = rw append-nil; stores = t ∙ rw append-nil; tabulates = s }
name_laid (x ∷ line) executable z t s = absurd (omega arith)

-- those of any other
pub line_laid : (line executable : List ℕ) {text text' spans spans' : List ℕ} {count units : ℕ} → (length line ≡ 0 → ⊥)
    → Laid (arguments line) text text' spans spans' count units → Laid (line_arguments line executable) text text' spans spans' count units
unfolding line_arguments
line_laid [] executable z r = absurd (z refl)
line_laid (x ∷ line) executable z r = r

-- ---- the outcome

-- 2
pub too_long : (executable xs : List ℕ) (room numbers : ℕ) → read_limit < length (units_read executable xs) → reading executable xs room numbers ≡ refused 2 0
unfolding reading
too_long executable xs room numbers h = rw (lt-ltb _ _ h)

-- behind it: 3, 4 or the arguments, which are those of the part before the first NUL
pub behind_limit : (executable xs : List ℕ) (n : ℕ) → n ≡ before is_nul xs → (room numbers : ℕ) → length (units_read executable xs) ≤ read_limit
    → housed (line_arguments (take n xs) executable) room numbers ≡ reading executable xs room numbers
unfolding reading
behind_limit executable xs n e room numbers h = rw (le-ltb read_limit (length (units_read executable xs)) h, arguments_are executable xs n e)

-- where they surely fit, output and table have room for them
pub sure_housed : (executable xs : List ℕ) (n : ℕ) → n ≡ before is_nul xs → (room numbers : ℕ) → sure (length (units_read executable xs)) room numbers ≡ true
    → Housed (line_arguments (take n xs) executable) room numbers
sure_housed executable xs n e room numbers h =
    let (fits, places) = both_true (leb (length (units_read executable xs)) room) (leb (length (units_read executable xs) + 2) numbers) h in
    let x = read_extent executable xs in
    let t = leb-true (length (units_read executable xs)) room fits in
    let p = leb-true (length (units_read executable xs) + 2) numbers places in
    rw (arguments_are executable xs n e) (record { places = omega arith; text = omega arith })

module _ (args : List (List ℕ)) (room numbers : ℕ) where
  -- 3
  pub no_places : numbers / 2 < length args → housed args room numbers ≡ refused 3 0
  no_places h = rw (lt-ltb _ _ h)

  -- 4
  pub no_room : length args ≤ numbers / 2 → room < length (joined args) → housed args room numbers ≡ refused 4 0
  no_room p h = rw (le-ltb _ _ p, lt-ltb _ _ h)

  -- the arguments
  pub all_housed : Housed args room numbers → housed args room numbers ≡ done args
  all_housed h = rw (le-ltb (places_of numbers) (length args) h.places, le-ltb room (length (joined args)) h.text)

-- a refusal that changes nothing
pub refuses : {o : Outcome (List (List ℕ))} {r : Result Arguments Refusal} {number : ℕ} {text text' spans spans' : List ℕ} → o ≡ refused number 0 → parsed_said r ≡ refusal number 0
    → text' ≡ text → spans' ≡ spans → Read o r text text' spans spans'
refuses e a t s = rw e (record { says = a; leaves = t; tabulates = s })

-- the arguments, laid out where there is room, over a text and a table that are as they were
pub gives : {o : Outcome (List (List ℕ))} {args : List (List ℕ)} {text text₁ text' spans spans₁ spans' : List ℕ} {counted : Arguments} → o ≡ done args
    → Laid args text₁ text' spans₁ spans' counted.count counted.units → text₁ ≡ text → spans₁ ≡ spans → length (joined args) ≤ length text → length args ≤ length spans / 2
    → Read o (Ok counted) text text' spans spans'
gives {args = args} {text = text} {spans = spans} e r t s h g =
    let l : length (spans_of args) ≡ 2 * length args = spans_length 0 args in
    rw e
    (record {
      says = rw (r.counts, r.measures);
      leaves = r.stores ∙ rw t (sets_front text (joined args) h);
      tabulates = r.tabulates ∙ rw s (sets_front spans (spans_of args) (omega arith));
    })
