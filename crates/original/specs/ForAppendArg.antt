-- `append_arg` appends the form of an argument, or finds a NUL. Assumes nothing.
use Rattle.std.specs.Prelude.{ℕ, ◌+◌, ◌*◌, ◌≤◌, ◌≡◌, refl, Bool, true, false, List, [], ◌∷◌, ◌++◌}
use Rattle.std.proofs.Common.{arith, ne_eqb, ◌∙◌, append_assoc, append-nil}
use Rattle.rules.specs.Choice.{pick, any, is_empty}
use Rattle.rules.specs.Unit.{is_nul, is_blank, quote}
use Rattle.rules.specs.Outcome.{sound, wrong_if}
use Rattle.rules.specs.Record.{Argument, is_regular}
use Rattle.rules.specs.Quoting.{slashes, escaped, needs_quotes, form}
use Rattle.rules.specs.Building.{written, nul_finding}
use Rattle.laws.specs.Kind.{Kind, slash, marked, other, kind}
use Rattle.original.specs.Shims.{as_encoded_bytes}
use Rattle.original.specs.AppendArg.{Regular, Raw, Always, Auto, quote_and_escape, for_units, append_arg}
use Rattle.original.specs.Domain.{rust_says, finding_says, arg_of}
use Rattle.original.specs.Loops.{ensured_says}
use Rattle.original.specs.Laws.{either_comm, slashes_push, slashes_odd, closed, at_end_lem, between_quotes}
use Rattle.original.specs.Wtf8Laws.{any_bytes, empty_bytes}

-- ---- the loop

-- behind k backslashes that are written already, the loop and what closes write the units that `escaped` has
abbrev ArgWrites : Bool → List ℕ → Type 0
ArgWrites q xs = (k : ℕ) (front cmd : List ℕ) → cmd ≡ front ++ slashes k → closed q (for_units true cmd k xs) ≡ front ++ escaped q k xs

arg_writes_step : (q : Bool) {x : ℕ} (xs : List ℕ) → Kind x → ArgWrites q xs → ArgWrites q (x ∷ xs)
unfolding for_units escaped
arg_writes_step q xs slash ih k front cmd e = ih (k + 1) front _ (rw (e, append_assoc front, slashes_push k))
arg_writes_step q xs marked ih k front cmd e =
    ih 0 (front ++ (slashes (2 * k + 1) ++ quote ∷ [])) _ (rw e (simp (append_assoc, ← slashes_odd k, append-nil)))
    ∙ simp append_assoc
arg_writes_step q xs (other {x} p r) ih k front cmd e =
    simp (p, r) (ih 0 (front ++ (slashes k ++ x ∷ [])) (cmd ++ x ∷ []) (rw e (simp (append_assoc, append-nil))) ∙ simp append_assoc)

arg_writes : (q : Bool) (xs : List ℕ) → ArgWrites q xs
unfolding for_units escaped
arg_writes q [] = λ k front cmd e. rw e (at_end_lem q k front)
arg_writes q (x ∷ xs) = arg_writes_step q xs (kind x) (arg_writes q xs)

units_loop : (xs : List ℕ) (q : Bool) (cmd : List ℕ) → closed q (for_units true cmd 0 xs) ≡ cmd ++ escaped q 0 xs
units_loop xs q cmd = arg_writes q xs 0 cmd cmd (rw append-nil)

-- without escapes the units are appended as they are
plain : (cmd : List ℕ) (k : ℕ) (xs : List ℕ) → for_units false cmd k xs ≡ (cmd ++ xs, k)
unfolding for_units
plain cmd k [] = rw append-nil
plain cmd k (x ∷ xs) = plain (cmd ++ x ∷ []) k xs ∙ simp append_assoc

-- ---- the argument

no_blank : (b : ℕ) → 128 ≤ b → is_blank b ≡ false
no_blank b h = rw (ne_eqb b 32 (λ e. omega arith), ne_eqb b 9 (λ e. omega arith))

-- bytes decide on quotes as units do
quotes_same : (force : Bool) (xs : List ℕ) → quote_and_escape (pick force Always Auto) (as_encoded_bytes xs) ≡ (needs_quotes force xs, true)
unfolding needs_quotes
quotes_same true xs = refl
quotes_same false xs = rw (any_bytes is_blank no_blank xs, empty_bytes xs, either_comm (any is_blank xs) (is_empty xs))

regular_says : (force : Bool) (cmd xs : List ℕ)
    → rust_says (append_arg cmd (Regular xs) force) ≡ finding_says (wrong_if 5 (any is_nul xs) sound) (cmd ++ form force xs)
unfolding append_arg form
regular_says force cmd xs =
    rw (quotes_same force xs)
    (ensured_says (any is_nul xs) xs (between_quotes (λ start. for_units true start 0 xs) (λ q. escaped q 0 xs) (units_loop xs) (needs_quotes force xs) cmd))

raw_says : (force : Bool) (cmd xs : List ℕ) → rust_says (append_arg cmd (Raw xs) force) ≡ finding_says (wrong_if 5 (any is_nul xs) sound) (cmd ++ xs)
unfolding append_arg
raw_says force cmd xs = rw (plain cmd 0 xs) (ensured_says (any is_nul xs) xs refl)

-- An argument with no NUL is appended in its form, and one with a NUL is refused by 5, whatever it is and whether quotes are forced or not.
pub append_arg_same : (force : Bool) (cmd : List ℕ) (a : Argument)
    → rust_says (append_arg cmd (arg_of a) force) ≡ finding_says (nul_finding a) (cmd ++ written form force a)
append_arg_same force cmd a = go (is_regular a.kind)
  where
    go : (r : Bool)
        → rust_says (append_arg cmd (pick r (Regular a.content) (Raw a.content)) force)
        ≡ finding_says (nul_finding a) (cmd ++ pick r (form force a.content) a.content)
    go true = regular_says force cmd a.content
    go false = raw_says force cmd a.content
