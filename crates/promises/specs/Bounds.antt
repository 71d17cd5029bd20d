-- How long forms, lines and texts can be, and that the bounds are met. Assumes nothing.
use Rattle.std.specs.Prelude.{ℕ, zero, suc, ◌+◌, ◌*◌, ◌≤◌, ◌≡◌, refl, Bool, true, false, List, [], ◌++◌, ltb, length, replicate}
use Rattle.std.proofs.Common.{arith, ap, length-append}
use Rattle.rules.specs.Choice.{either, is_empty}
use Rattle.rules.specs.Unit.{units, quote, percent, is_forcing}
use Rattle.rules.specs.Outcome.{done}
use Rattle.rules.specs.Quoting.{escaped, needs_quotes, form}
use Rattle.rules.specs.Batch.{batch_escaped, ends_in_backslash, needs_batch_quotes, batch_form}
use Rattle.rules.specs.Building.{batch_line, batch_front}
use Rattle.rules.specs.Reading.{read_limit, line_of, between, later, arguments, arguments_read, units_read, joined, reading}
use Rattle.rules.specs.Status.{digits, high_bit, status_front, status_text}
use Rattle.laws.specs.Choice.{choose}
use Rattle.laws.specs.Length.{form_length, batch_form_length, digits_length}
use Rattle.laws.specs.Extent.{read_extent}
use Rattle.promises.specs.Reading.{read_given}

-- ---- forms and lines

-- an argument of n units takes at most 2n + 2
pub form_bound : (force : Bool) (xs : List ℕ) → length (form force xs) ≤ 2 * length xs + 2
form_bound force xs = form_length force xs

-- in a batch line an argument of n units takes at most 8n + 2
pub batch_form_bound : (force : Bool) (xs : List ℕ) → length (batch_form force xs) ≤ 8 * length xs + 2
batch_form_bound force xs = batch_form_length force xs

-- a batch line without arguments has 31 units more than its script, the dropped NUL not counted
pub batch_line_length : (force : Bool) (script : List ℕ) → length (batch_line force script []) ≡ length script + 31
unfolding batch_line batch_front units
batch_line_length force script = simp length-append (omega arith)

-- the text of a status has at most 21 units
pub status_bound : (status : ℕ) → length (status_text status) ≤ 21
unfolding status_text status_front units
status_bound status =
    choose (λ r. length (status_front ++ r) ≤ 21) (ltb status high_bit) {x = digits 10 9 status} {y = units "0x" ++ digits 16 7 status}
    (omega (arith, digits_length 10 9 status))
    (omega (arith, digits_length 16 7 status))

-- ---- the bounds are met

quotes_length : (n : ℕ) → length (escaped true 0 (replicate n quote)) ≡ 2 * n
unfolding escaped
quotes_length zero = refl
quotes_length (suc n) = omega (arith, quotes_length n)

-- n quote marks, forced, take 2n + 2: four take 10
pub form_met : (n : ℕ) → length (form true (replicate n quote)) ≡ 2 * n + 2
unfolding form needs_quotes
form_met n = simp length-append (omega (arith, quotes_length n))

percents_length : (n : ℕ) → length (batch_escaped true 0 (replicate n percent)) ≡ 8 * n
unfolding batch_escaped units
percents_length zero = refl
percents_length (suc n) = omega (arith, percents_length n)

percents_quoted : (force : Bool) (n : ℕ) → needs_batch_quotes force (replicate n percent) ≡ true
unfolding needs_batch_quotes is_forcing units
percents_quoted true n = refl
percents_quoted false zero = refl
percents_quoted false (suc n) = go (ends_in_backslash (replicate (suc n) percent))
  where
    go : (b : Bool) → either b true ≡ true
    go true = refl
    go false = refl

-- n percent signs, forced or not, take 8n + 2
pub batch_form_met : (force : Bool) (n : ℕ) → length (batch_form force (replicate n percent)) ≡ 8 * n + 2
unfolding batch_form
batch_form_met force n = rw (percents_quoted force n) (simp length-append (omega (arith, percents_length n)))

-- ---- reading

-- a line of n units that is not empty gives at most n text units
pub text_bound : (executable lent : List ℕ) → is_empty (line_of lent) ≡ false → length (joined (arguments_read executable lent)) ≤ length (line_of lent)
unfolding units_read
text_bound executable lent h = rw h at (read_extent executable lent).text

-- twice the number of its arguments is at most n + 2
pub count_bound : (executable lent : List ℕ) → is_empty (line_of lent) ≡ false → 2 * length (arguments_read executable lent) ≤ length (line_of lent) + 2
unfolding units_read
count_bound executable lent h = rw h at (read_extent executable lent).count

-- n times a space and a letter
unfoldable pub spaced : ℕ → List ℕ
unfolding units
spaced zero = []
spaced (suc n) = units " a" ++ spaced n

spaced_count : (n : ℕ) → length (later between 0 [] (units "a" ++ spaced n)) ≡ suc n
unfolding later spaced
spaced_count zero = refl
spaced_count (suc n) = ap suc (spaced_count n)

-- it is met: the line of n times a space and a letter has 2n units and n + 1 arguments
pub count_met : (n : ℕ) → (length (spaced n) ≡ 2 * n) × (length (arguments (spaced n)) ≡ n + 1)
unfolding arguments spaced
count_met zero = (refl, refl)
count_met (suc n) = (omega (arith, (count_met n).0), omega (arith, spaced_count n))

-- whatever is read has at most 32,767 text units and 16,384 arguments
pub read_bound : (executable lent : List ℕ) (room numbers : ℕ) (args : List (List ℕ)) → reading executable lent room numbers ≡ done args
    → (length (joined args) ≤ 32767) × (length args ≤ 16384)
unfolding read_limit
read_bound executable lent room numbers args e =
    let (short, (_, (_, same))) = (read_given executable lent room numbers args).0 e in
    let x = read_extent executable lent in
    rw (← same) (omega arith)
