-- How long escaped units, forms and digits can be. Assumes nothing.
use Rattle.std.specs.Prelude.{ℕ, zero, suc, ◌+◌, ◌*◌, ◌≤◌, ◌/◌, ◌%◌, Bool, true, false, List, [], ◌∷◌, ◌++◌, ltb, length}
use Rattle.std.proofs.Common.{arith, length-append}
use Rattle.std.proofs.lemmas.List.{length-replicate}
use Rattle.rules.specs.Choice.{pick}
use Rattle.rules.specs.Unit.{units, is_percent}
use Rattle.rules.specs.Quoting.{slashes, escaped, needs_quotes, enclosed, form}
use Rattle.rules.specs.Batch.{batch_escaped, needs_batch_quotes, batch_form}
use Rattle.rules.specs.Record.{Argument, is_regular}
use Rattle.rules.specs.Building.{written}
use Rattle.rules.specs.Status.{glyph, digits}
use Rattle.laws.specs.Choice.{choose}
use Rattle.laws.specs.Kind.{Kind, slash, marked, other, kind}

-- the lengths of units put together and of a run of one unit
pub ruleset lengths = (length-append, length-replicate)

-- backslashes at the end of an argument
end_length : (q : Bool) (k : ℕ) → length (slashes (pick q (2 * k) k)) ≤ 2 * k
end_length true k = simp length-replicate (omega arith)
end_length false k = simp length-replicate (omega arith)

-- ---- an argument of an ordinary line

-- escaped behind any backslashes, the units are not too many
abbrev Small : Bool → List ℕ → Type 0
Small q xs = (k : ℕ) → length (escaped q k xs) ≤ 2 * length xs + 2 * k

step : (q : Bool) {x : ℕ} (xs : List ℕ) → Kind x → Small q xs → Small q (x ∷ xs)
unfolding escaped
step q xs slash ih k = omega (arith, ih (k + 1))
step q xs marked ih k = simp lengths (omega (arith, ih 0))
step q xs (other p r) ih k = simp (p, r, lengths) (omega (arith, ih 0))

-- escaped units are at most two for each of the argument and for each backslash before it
pub escaped_length : (q : Bool) (xs : List ℕ) (k : ℕ) → length (escaped q k xs) ≤ 2 * length xs + 2 * k
unfolding escaped
escaped_length q [] = λ k. omega (arith, end_length q k)
escaped_length q (x ∷ xs) = step q xs (kind x) (escaped_length q xs)

-- escaped behind any backslashes, the units are not fewer
abbrev Longer : Bool → List ℕ → Type 0
Longer q xs = (k : ℕ) → k + length xs ≤ length (escaped q k xs)

longer_step : (q : Bool) {x : ℕ} (xs : List ℕ) → Kind x → Longer q xs → Longer q (x ∷ xs)
unfolding escaped
longer_step q xs slash ih k = omega (arith, ih (k + 1))
longer_step q xs marked ih k = simp lengths (omega (arith, ih 0))
longer_step q xs (other p r) ih k = simp (p, r, lengths) (omega (arith, ih 0))

longer : (q : Bool) (xs : List ℕ) → Longer q xs
unfolding escaped
longer true [] = λ k. rw length-replicate (omega arith)
longer false [] = λ k. rw length-replicate (omega arith)
longer q (x ∷ xs) = longer_step q xs (kind x) (longer q xs)

-- ---- an argument of a batch line

-- and so in a batch line
abbrev BatchSmall : Bool → List ℕ → Type 0
BatchSmall q xs = (k : ℕ) → length (batch_escaped q k xs) ≤ 8 * length xs + 2 * k

batch_step : (q : Bool) {x : ℕ} (xs : List ℕ) → Kind x → BatchSmall q xs → BatchSmall q (x ∷ xs)
unfolding batch_escaped
batch_step q xs slash ih k = omega (arith, ih (k + 1))
batch_step q xs marked ih k = simp lengths (omega (arith, ih 0))
batch_step q xs (other {x} p r) ih k =
    simp (p, r)
    (choose (λ r. length r ≤ 8 * suc (length xs) + 2 * k) (is_percent x)
    {x = slashes k ++ units "%%cd:~,%" ++ batch_escaped q 0 xs} {y = slashes k ++ x ∷ batch_escaped q 0 xs}
    (simp lengths (omega (arith, ih 0)))
    (simp lengths (omega (arith, ih 0))))

batch_small : (q : Bool) (xs : List ℕ) → BatchSmall q xs
unfolding batch_escaped
batch_small q [] = λ k. omega (arith, end_length q k)
batch_small q (x ∷ xs) = batch_step q xs (kind x) (batch_small q xs)

-- escaped units of a batch argument are at most eight for each of the argument, and two for each backslash before it
pub batch_escaped_length : (q : Bool) (xs : List ℕ) (k : ℕ) → length (batch_escaped q k xs) ≤ 8 * length xs + 2 * k
batch_escaped_length q xs k = omega (arith, batch_small q xs k)

-- ---- forms

-- an argument of n units takes at most 2n + 2
pub form_length : (force : Bool) (xs : List ℕ) → length (form force xs) ≤ 2 * length xs + 2
unfolding form
form_length force xs =
    choose (λ r. length r ≤ 2 * length xs + 2) (needs_quotes force xs) {x = enclosed (escaped true 0 xs)} {y = escaped false 0 xs}
    (simp length-append (omega (arith, escaped_length true xs 0)))
    (omega (arith, escaped_length false xs 0))

-- and at least n
form_longer : (force : Bool) (xs : List ℕ) → length xs ≤ length (form force xs)
unfolding form
form_longer force xs =
    choose (λ r. length xs ≤ length r) (needs_quotes force xs) {x = enclosed (escaped true 0 xs)} {y = escaped false 0 xs}
    (rw length-append (omega (arith, longer true xs 0)))
    (omega (arith, longer false xs 0))

-- so does one that is raw
pub written_longer : (force : Bool) (a : Argument) → length a.content ≤ length (written form force a)
written_longer force a =
    choose (λ r. length a.content ≤ length r) (is_regular a.kind) {x = form force a.content} {y = a.content} (form_longer force a.content) (omega arith)

-- in a batch line at most 8n + 2
pub batch_form_length : (force : Bool) (xs : List ℕ) → length (batch_form force xs) ≤ 8 * length xs + 2
unfolding batch_form
batch_form_length force xs =
    choose (λ r. length r ≤ 8 * length xs + 2) (needs_batch_quotes force xs) {x = enclosed (batch_escaped true 0 xs)} {y = batch_escaped false 0 xs}
    (simp length-append (omega (arith, batch_small true xs 0)))
    (omega (arith, batch_small false xs 0))

-- ---- digits

-- there are at most as many digits as the definition allows
pub digits_length : (base fuel n : ℕ) → length (digits base fuel n) ≤ fuel + 1
unfolding digits
digits_length base zero n = omega arith
digits_length base (suc fuel) n =
    choose (λ r. length r ≤ suc fuel + 1) (ltb n base) {x = glyph n ∷ []} {y = digits base fuel (n / base) ++ glyph (n % base) ∷ []}
    (omega arith)
    (simp length-append (omega (arith, digits_length base fuel (n / base))))
