-- `append_bat_arg` appends the batch form of an argument without CR, or finds a NUL. Assumes nothing.
use Rattle.std.specs.Prelude.{ℕ, zero, suc, ◌+◌, ◌*◌, ◌<◌, ◌≤◌, ◌≡◌, refl, Bool, true, false, List, [], ◌∷◌, ◌++◌, ltb, eqb}
use Rattle.std.proofs.Common.{arith, ltb-true, ltb-false, eqb-true, le-ltb, le-leb, ap, ◌∙◌, append_assoc, append-nil}
use Rattle.std.proofs.lemmas.Bool.{eqb-false, lt-leb}
use Rattle.rules.specs.Choice.{pick, either, both, flip, any, is_empty}
use Rattle.rules.specs.Unit.{units, is_nul, is_percent, is_forcing, within, quote, carriage_return}
use Rattle.rules.specs.Quoting.{slashes}
use Rattle.rules.specs.Record.{Argument}
use Rattle.rules.specs.Building.{nul_finding}
use Rattle.rules.specs.Batch.{batch_escaped, ends_in_backslash, needs_batch_quotes, batch_form}
use Rattle.laws.specs.Kind.{Kind, slash, marked, other, kind}
use Rattle.laws.specs.Choice.{apart}
use Rattle.original.specs.Language.{◌==Some◌}
use Rattle.original.specs.Shims.{contains, last, is_high, is_low, pair, code_points, as_encoded_bytes, is_ascii, is_ascii_alphanumeric, is_control}
use Rattle.original.specs.AppendBatArg.{UNQUOTED, for_code_points, for_bat_units, append_bat_arg}
use Rattle.original.specs.Domain.{rust_says, finding_says}
use Rattle.original.specs.Loops.{ensured_says}
use Rattle.laws.specs.Choice.{both_true}
use Rattle.original.specs.Laws.{within_least, either_false, slashes_push, slashes_twice, closed, at_end_lem, between_quotes}
use Rattle.original.specs.Wtf8Laws.{last_bytes}

-- ---- the decision on quotes

-- what sets `quote` for a character
unfoldable needs : ℕ → Bool
unfolding UNQUOTED
needs cp = either (both (is_ascii cp) (flip (either (is_ascii_alphanumeric cp) (contains UNQUOTED cp)))) (is_control cp)

-- two tests say the same
agree : Bool → Bool → Bool
agree true b = b
agree false b = flip b

agreed : (a b : Bool) → agree a b ≡ true → a ≡ b
unfolding agree
agreed true true h = refl
agreed true false h = cc
agreed false true h = cc
agreed false false h = refl

-- the two tests agree on each number below n
unfoldable agree_below : ℕ → Bool
unfolding agree needs is_forcing
agree_below zero = true
agree_below (suc n) = both (agree (needs n) (is_forcing n)) (agree_below n)

agree_at : (n x : ℕ) → agree_below n ≡ true → x < n → needs x ≡ is_forcing x
unfolding agree_below
agree_at zero x h l = absurd (omega arith)
agree_at (suc n) x h l =
    let (here, below) = both_true (agree (needs n) (is_forcing n)) (agree_below n) h in
    go (eqb x n) refl (agreed (needs n) (is_forcing n) here) (agree_at n x below)
  where
    go : (b : Bool) → eqb x n ≡ b → needs n ≡ is_forcing n → (x < n → needs x ≡ is_forcing x) → needs x ≡ is_forcing x
    go true e here ih = rw (eqb-true x n e) here
    go false e here ih = let d = eqb-false x n e in ih (omega (arith, d))

-- the tests hold of no number from 160 up
no_forcing : (x : ℕ) → 160 ≤ x → is_forcing x ≡ false
unfolding is_forcing
no_forcing x h = rw (le-ltb x 128 (omega arith), lt-leb x 159 (omega arith), le-leb 128 x (omega arith))

no_needs : (x : ℕ) → 160 ≤ x → needs x ≡ false
unfolding needs
no_needs x h = rw (le-ltb x 128 (omega arith), lt-leb x 31 (omega arith), lt-leb x 159 (omega arith), le-leb 0 x (omega arith), le-leb 127 x (omega arith))

-- the Rust's test is the rule's
needs_same : (x : ℕ) → needs x ≡ is_forcing x
unfolding agree_below
needs_same x = go (ltb x 160) refl
  where
    go : (b : Bool) → ltb x 160 ≡ b → needs x ≡ is_forcing x
    go true e = agree_at 160 x refl (ltb-true x 160 e)
    go false e = let h = ltb-false x 160 e in rw (no_needs x h, no_forcing x h)

-- a test that sets a truth
set_by : (b q : Bool) → pick b true q ≡ either q b
set_by true true = refl
set_by true false = refl
set_by false true = refl
set_by false false = refl

-- one code point
one_point : (q : Bool) (cp : ℕ) (cps : List ℕ) → for_code_points q (cp ∷ cps) ≡ for_code_points (either q (is_forcing cp)) cps
unfolding for_code_points needs
one_point q cp cps = go (within 0xd800 0xdfff cp) refl
  where
    go : (b : Bool) → within 0xd800 0xdfff cp ≡ b → for_code_points q (cp ∷ cps) ≡ for_code_points (either q (is_forcing cp)) cps
    go true e = simp (e, no_forcing cp (omega (arith, within_least 0xd800 0xdfff cp e)), either_false q)
    go false e = rw (e, ← needs_same cp) (ap (λ q. for_code_points q cps) (set_by (needs cp) q))

-- tests one after another
either_assoc : (a b c : Bool) → either (either a b) c ≡ either a (either b c)
either_assoc true b c = refl
either_assoc false b c = refl

-- the code points decide on quotes as the units do
abbrev Decides : List ℕ → Type 0
Decides xs = (q : Bool) → for_code_points q (code_points xs) ≡ either q (any is_forcing xs)

split_decides : (x y : ℕ) (ys : List ℕ) → Decides ys → Decides (y ∷ ys) → Decides (x ∷ y ∷ ys)
unfolding code_points
split_decides x y ys ih ih' q = go (both (is_high x) (is_low y)) refl
  where
    go : (b : Bool) → both (is_high x) (is_low y) ≡ b → for_code_points q (code_points (x ∷ y ∷ ys)) ≡ either q (any is_forcing (x ∷ y ∷ ys))
    go true e =
        let (h, l) = both_true (is_high x) (is_low y) e in
        let hx = no_forcing x (omega (arith, within_least 0xd800 0xdbff x h)) in
        let hy = no_forcing y (omega (arith, within_least 0xdc00 0xdfff y l)) in
        rw (e, one_point q (pair x y), no_forcing (pair x y) (omega arith), either_false q, hx, hy) (ih q)
    go false e = rw (e, one_point q x, ih' (either q (is_forcing x))) (either_assoc q (is_forcing x) (any is_forcing (y ∷ ys)))

-- an unpaired surrogate does not force, and neither does a pair
decides : (xs : List ℕ) → Decides xs
unfolding code_points for_code_points
decides [] = λ q. rw (either_false q)
decides (x ∷ []) = λ q. one_point q x [] ∙ rw (either_false (is_forcing x))
decides (x ∷ y ∷ ys) = split_decides x y ys (decides ys) (decides (y ∷ ys))

-- the Rust's two statements that set `quote`, and the rule's four tests
in_turn : (a b c f : Bool) → either (pick (either a b) true f) c ≡ either f (either a (either b c))
in_turn true b c true = refl
in_turn true b c false = refl
in_turn false true c true = refl
in_turn false true c false = refl
in_turn false false c f = refl

-- the Rust's decision is the rule's
bat_quotes_same : (force : Bool) (xs : List ℕ)
    → for_code_points (pick (either (is_empty xs) (last (as_encoded_bytes xs) ==Some 92)) true force) (code_points xs) ≡ needs_batch_quotes force xs
unfolding needs_batch_quotes
bat_quotes_same force xs = rw (last_bytes xs, decides xs) (in_turn (is_empty xs) (ends_in_backslash xs) (any is_forcing xs) force)

-- ---- the loop

-- a `%`, or another unit
data Hack : ℕ → Type 0 where
  percent_sign : Hack 37
  no_percent : {x : ℕ} → is_percent x ≡ false → Hack x

-- which of the two a unit is
hack : (x : ℕ) → Hack x
hack x = go (is_percent x) refl
  where
    go : (b : Bool) → is_percent x ≡ b → Hack x
    go true e = rw (eqb-true x 37 e) percent_sign
    go false e = no_percent e

-- CR
abbrev pub is_return : ℕ → Bool
is_return x = eqb x carriage_return

-- behind k backslashes that are written already, the loop and what closes write the units that `batch_escaped` has
abbrev BatWrites : Bool → List ℕ → Type 0
BatWrites q xs =
    any is_return xs ≡ false → (k : ℕ) (front cmd : List ℕ) → cmd ≡ front ++ slashes k → closed q (for_bat_units cmd k xs) ≡ front ++ batch_escaped q k xs

bat_writes_step : (q : Bool) {x : ℕ} (xs : List ℕ) → Kind x → Hack x → BatWrites q xs → BatWrites q (x ∷ xs)
unfolding for_bat_units batch_escaped
bat_writes_step q xs slash h ih c k front cmd e = ih c (k + 1) front _ (rw (e, append_assoc front, slashes_push k))
bat_writes_step q xs marked h ih c k front cmd e =
    ih c 0 (front ++ (slashes (2 * k) ++ quote ∷ quote ∷ [])) _ (rw e (simp (append_assoc, ← slashes_twice k, append-nil)))
    ∙ simp append_assoc
bat_writes_step q xs (other p r) percent_sign ih c k front cmd e =
    ih c 0 (front ++ (slashes k ++ units "%%cd:~,%")) _ (rw e (simp (append_assoc, append-nil))) ∙ simp append_assoc
bat_writes_step q xs (other {x} p r) (no_percent s) ih c k front cmd e =
    let (n, c') = apart true (is_return x) (any is_return xs) c in
    simp (p, r, s, n) (ih c' 0 (front ++ (slashes k ++ x ∷ [])) (cmd ++ x ∷ []) (rw e (simp (append_assoc, append-nil))) ∙ simp append_assoc)

bat_writes : (q : Bool) (xs : List ℕ) → BatWrites q xs
unfolding for_bat_units batch_escaped
bat_writes q [] = λ c k front cmd e. rw e (at_end_lem q k front)
bat_writes q (x ∷ xs) = bat_writes_step q xs (kind x) (hack x) (bat_writes q xs)

bat_units_loop : (xs : List ℕ) → any is_return xs ≡ false → (q : Bool) (cmd : List ℕ) → closed q (for_bat_units cmd 0 xs) ≡ cmd ++ batch_escaped q 0 xs
bat_units_loop xs c q cmd = bat_writes q xs c 0 cmd cmd (rw append-nil)

-- ---- the argument

-- An argument with no CR and no NUL is appended in its batch form, and one with a NUL is refused by 5, whether quotes are forced or not.
-- With a CR it is never called: see `carriage_return_unreached` in ForMakeBatCommandLine.
pub append_bat_arg_same : (force : Bool) (cmd : List ℕ) (a : Argument) → any is_return a.content ≡ false
    → rust_says (append_bat_arg cmd a.content force) ≡ finding_says (nul_finding a) (cmd ++ batch_form force a.content)
unfolding append_bat_arg batch_form
append_bat_arg_same force cmd a c =
    let arg = a.content in
    rw (bat_quotes_same force arg)
    (ensured_says (any is_nul arg) arg (between_quotes (λ start. for_bat_units start 0 arg) (λ q. batch_escaped q 0 arg) (bat_units_loop arg c) (needs_batch_quotes force arg) cmd))
