-- The units of a dump, taken one after another. Assumes nothing.
use Rattle.std.proofs.Common.{ℕ, ◌+◌, ◌*◌, ◌-◌, ◌≤◌, ◌<◌, ◌≡◌, refl, arith, List, [], ◌∷◌, length, get_or, take, drop, set}
use Rattle.std.proofs.lemmas.List.Edits.{sets}
use Rattle.laws.specs.Store.{part_is}
use Rattle.laws.specs.Placed.{Left, less_left, unit_placed}
use Rattle.dumps.specs.Dumped.{dumped}

-- where fewer than two bytes are left, no unit is
none_dumped : (xs : List ℕ) → length xs < 2 → dumped xs ≡ []
unfolding dumped
none_dumped [] h = refl
none_dumped (x ∷ []) h = refl
none_dumped (x ∷ y ∷ xs) h = absurd (omega arith)

-- the unit of the first two bytes, and then the others
next_dumped : (xs : List ℕ) → 2 ≤ length xs → dumped xs ≡ (get_or xs 0 0 + 256 * get_or xs 1 0) ∷ dumped (take (length xs - 2) (drop 2 xs))
unfolding dumped
next_dumped [] h = absurd (omega arith)
next_dumped (x ∷ []) h = absurd (omega arith)
next_dumped (x ∷ y ∷ xs) h = rw part_is refl

-- there are no more units than bytes
few_dumped : (xs : List ℕ) → length (dumped xs) ≤ length xs
unfolding dumped
few_dumped [] = omega arith
few_dumped (x ∷ []) = omega arith
few_dumped (x ∷ y ∷ xs) = omega (arith, few_dumped xs)

-- so many units stand, and those of the bytes that are left are still to be placed
pub record Midway (bytes before out rest : List ℕ) (to : ℕ) : Type 0 where
  pub still : Left (dumped bytes) 0 before (dumped rest) to out

module _ {bytes before : List ℕ} where
  pub started : Midway bytes before before bytes 0
  started = record { still = record { counts = refl; stores = refl } }

  module _ {out rest : List ℕ} {to : ℕ} (m : Midway bytes before out rest to) where
    -- no more units stand than there are bytes
    pub few : to ≤ length bytes
    few = omega (arith, m.still.counts, few_dumped bytes)

    -- one unit more
    pub turn : {unit : ℕ} {out' : List ℕ} → 2 ≤ length rest → unit ≡ get_or rest 0 0 + 256 * get_or rest 1 0 → out' ≡ set out to unit
        → Midway bytes before out' (take (length rest - 2) (drop 2 rest)) (to + 1)
    turn h u e = record { still = less_left (rw (next_dumped rest h) at m.still) (unit_placed _ to (rw u at e)) }

    -- no unit is left
    pub ended : length rest < 2 → (to ≡ length (dumped bytes)) × (out ≡ sets before 0 (dumped bytes))
    ended h = let s = rw (none_dumped rest h) at m.still in (omega (arith, s.counts), s.stores)
