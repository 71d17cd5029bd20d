-- Units added behind those that a line has, in the unused rest of the output. Assumes nothing.
use Prim.Native.Nat.{ℕ, ◌+◌, ◌-◌, ◌≤◌, ◌<◌, min}
use native.Mathlib.Nat.{lt_of_not-le}
use native.Mathlib.Numerals.{add-one}
use native.Mathlib.Decide.{dec_le}
use native.Mathlib.Omega.{arith}
use borrow.Author.Tests.{le-leb, lt-leb}
use mathlib.Core.Path.{◌≡◌, sym, ◌∙◌}
use mathlib.Core.List.{List, ◌∷◌, ◌++◌}
use lib.ListN.{length, take, drop, set}
use lib.Seq.{sets}
use Rattle.laws.specs.Store.{part_is, back_is, sets_rest, sets_out}
use Rattle.laws.specs.Placed.{Appended}
use Rattle.adding.specs.Limits.{count_cap, counted}
use Rattle.adding.specs.Added.{stored, Added}

-- at the cap nothing is added
pub nothing_added : (run : List ℕ) (units : ℕ) (out : List ℕ) → count_cap ≤ units → Added run units count_cap out out
unfolding counted stored
nothing_added run units out h = record { counts = omega arith; stores = rw (le-leb count_cap units h) }

-- a place that is clipped to the output's end is as good
clipped_place : (out run : List ℕ) (at from : ℕ) → from ≡ min (length out) at → sets out from run ≡ sets out at run
clipped_place out run at from e = go (dec_le at (length out))
  where
    go : Dec (at ≤ length out) → sets out from run ≡ sets out at run
    go (yes h) = let f : from ≡ at = omega arith in rw f
    go (no h) =
        let g = lt_of_not-le h in
        sets_out out from run (omega arith) ∙ sym (sets_out out at run (omega arith))

-- a run at the front of the rest that was lent, as the code's rule has it back
pub in_the_rest : (out run rest : List ℕ) (at from n : ℕ) → from ≡ min (length out) at → Appended run n (take (length out - from) (drop from out)) rest
    → take from out ++ (rest ++ drop (length out - from) (drop from out)) ≡ sets out at run
in_the_rest out run rest at from n e a =
    let s : rest ≡ sets (drop from out) 0 run = rw part_is at a.stores in
    back_is from out rest ∙ rw s (sets_rest out run from (omega arith) ∙ clipped_place out run at from e)

module _ (units : ℕ) (h : units < count_cap) where
  -- a unit, and a run in the rest behind it
  pub unit_and_run : (x : ℕ) (run before out rest : List ℕ) (from n count : ℕ) → out ≡ set before units x → from ≡ min (length out) (units + 1)
      → Appended run n (take (length out - from) (drop from out)) rest → count ≡ counted (units + 1) n
      → Added (x ∷ run) units count before (take from out ++ (rest ++ drop (length out - from) (drop from out)))
  unfolding counted stored
  unit_and_run x run before out rest from n count p e a k =
      let c = a.counts in
      record {
        counts = omega arith;
        stores = rw (lt-leb count_cap units h) (in_the_rest out run rest (units + 1) from n e a ∙ rw (p, add-one units));
      }
