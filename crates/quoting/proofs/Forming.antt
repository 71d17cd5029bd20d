-- The forms of the rules are what is formed, and how long they can be. Assumes nothing.
use Prim.Native.Nat.{ℕ, ◌+◌, ◌*◌, ◌≤◌}
use native.Mathlib.Omega.{arith}
use mathlib.Core.Path.{◌≡◌, refl, ap}
use mathlib.Core.Bool.{Bool, true, false}
use mathlib.Core.List.{List, append-nil}
use lib.ListN.{length, length-append, length-replicate}
use Rattle.rules.specs.Choice.{pick}
use Rattle.rules.specs.Quoting.{needs_quotes, enclosed, form}
use Rattle.rules.specs.Batch.{needs_batch_quotes, batch_form}
use Rattle.laws.specs.Length.{escaped_length, batch_escaped_length}
use Rattle.quoting.specs.Emitted.{stretch, slashes_behind, emitted, edge, formed}
use Rattle.quoting.proofs.Emitting.{escaped_emitted, batch_emitted}

-- one quote mark or none
pub edge_length : (q : Bool) → length (edge q) ≤ 1
edge_length true = omega arith
edge_length false = omega arith

-- what is formed, by whether it stands in quotes
formed_is : (batch q : Bool) (xs : List ℕ) → formed batch q xs ≡ pick q (enclosed (emitted batch true 0 xs)) (emitted batch false 0 xs)
unfolding formed
formed_is batch true xs = refl
formed_is batch false xs = append-nil (emitted batch false 0 xs)

-- how long it is
pub formed_parts : (batch q : Bool) (xs : List ℕ)
    → length (formed batch q xs) ≡ length (edge q) + (length (stretch batch 0 xs) + pick q (slashes_behind 0 xs) 0) + length (edge q)
unfolding formed emitted
formed_parts batch q xs = simp (length-append, length-replicate)

-- the form of a regular argument
pub form_is : (force : Bool) (xs : List ℕ) → formed false (needs_quotes force xs) xs ≡ form force xs
unfolding form
form_is force xs = rw (formed_is, escaped_emitted true xs 0, escaped_emitted false xs 0)

-- the form of a regular batch argument
pub batch_form_is : (force : Bool) (xs : List ℕ) → formed true (needs_batch_quotes force xs) xs ≡ batch_form force xs
unfolding batch_form
batch_form_is force xs = rw (formed_is, batch_emitted true xs 0, batch_emitted false xs 0)

-- two quotes more than the units between them
formed_length : (batch q : Bool) (xs : List ℕ) {most : ℕ} → ((q : Bool) → length (emitted batch q 0 xs) ≤ most) → length (formed batch q xs) ≤ most + 2
formed_length batch true xs h = rw (formed_is, length-append) (omega (arith, h true))
formed_length batch false xs h = rw formed_is (omega (arith, h false))

-- an argument takes at most two units for each of its own, and two
pub form_most : (q : Bool) (xs : List ℕ) → length (formed false q xs) ≤ 2 * length xs + 2
form_most q xs = formed_length false q xs (λ q. omega (arith, escaped_length q xs 0, ap length (escaped_emitted q xs 0)))

-- a batch argument takes at most eight units for each of its own, and two
pub batch_form_most : (q : Bool) (xs : List ℕ) → length (formed true q xs) ≤ 8 * length xs + 2
batch_form_most q xs = formed_length true q xs (λ q. omega (arith, batch_escaped_length q xs 0, ap length (batch_emitted q xs 0)))
