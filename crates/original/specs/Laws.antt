-- Laws of tests and of runs of backslashes that the theorems cite. Assumes nothing.
use Rattle.std.specs.Prelude.{ℕ, ◌+◌, ◌*◌, ◌≤◌, ◌≡◌, refl, Bool, true, false, List, [], ◌∷◌, ◌++◌, leb}
use Rattle.std.proofs.Common.{arith, leb-true, append_assoc}
use Rattle.std.proofs.lemmas.List.{replicate-append-replicate}
use Rattle.laws.specs.Choice.{both_true}
use Rattle.rules.specs.Choice.{pick, either, both}
use Rattle.rules.specs.Unit.{within, backslash, quote}
use Rattle.rules.specs.Quoting.{slashes, enclosed}

-- ---- tests

-- a test or nothing is that test
pub either_false : (b : Bool) → either b false ≡ b
either_false true = refl
either_false false = refl

-- a test and one that fails
pub both_false : (b : Bool) → both b false ≡ false
both_false true = refl
both_false false = refl

-- either way round
pub either_comm : (a b : Bool) → either a b ≡ either b a
either_comm true true = refl
either_comm true false = refl
either_comm false true = refl
either_comm false false = refl

-- what is within two bounds is at least the first
pub within_least : (a b x : ℕ) → within a b x ≡ true → a ≤ x
within_least a b x h = leb-true a x (both_true (leb a x) (leb x b) h).0

-- ---- runs of backslashes

-- one backslash more, behind
pub slashes_push : (k : ℕ) → slashes k ++ backslash ∷ [] ≡ slashes (k + 1)
slashes_push k = replicate-append-replicate k 1 backslash

-- twice as many
pub slashes_twice : (k : ℕ) → slashes k ++ slashes k ≡ slashes (2 * k)
slashes_twice k = let e : k + k ≡ 2 * k = omega arith in rw (replicate-append-replicate k k backslash, e)

-- twice as many and one
pub slashes_odd : (k : ℕ) → slashes k ++ slashes (k + 1) ≡ slashes (2 * k + 1)
slashes_odd k = let e : k + (k + 1) ≡ 2 * k + 1 = omega arith in rw (replicate-append-replicate k (k + 1) backslash, e)

-- ---- what closes an argument

-- the backslashes that are written again before the quote mark that closes, where one does
abbrev pub closed : Bool → List ℕ × ℕ → List ℕ
closed q (cmd, backslashes) = pick q (cmd ++ slashes backslashes) cmd

-- behind k backslashes at the end
pub at_end_lem : (q : Bool) (k : ℕ) (front : List ℕ) → closed q (front ++ slashes k, k) ≡ front ++ slashes (pick q (2 * k) k)
at_end_lem true k front = rw (append_assoc front, slashes_twice k)
at_end_lem false k front = refl

-- the statement that opens the quotes
abbrev pub with_opening : Bool → List ℕ → List ℕ
with_opening q cmd = pick q (cmd ++ quote ∷ []) cmd

-- the statements that close them
abbrev pub with_closing : Bool → List ℕ × ℕ → List ℕ
with_closing q (cmd, backslashes) = pick q (cmd ++ slashes backslashes ++ quote ∷ []) cmd

-- a loop that appends a body, between these statements, appends the body or the body in quotes
pub between_quotes : (loop : List ℕ → List ℕ × ℕ) (body : Bool → List ℕ) → ((q : Bool) (cmd : List ℕ) → closed q (loop cmd) ≡ cmd ++ body q)
    → (q : Bool) (cmd : List ℕ) → with_closing q (loop (with_opening q cmd)) ≡ cmd ++ pick q (enclosed (body true)) (body false)
between_quotes loop body h true cmd = rw (h true (cmd ++ quote ∷ [])) (simp append_assoc)
between_quotes loop body h false cmd = h false cmd
