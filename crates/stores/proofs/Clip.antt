-- A run of stores that is clipped once to the places that there are. Assumes nothing.
use Prim.Native.Nat.{ℕ, ◌+◌, ◌-◌, ◌≤◌, ◌<◌, min}
use native.Mathlib.Nat.{lt_of_not-le}
use native.Mathlib.Decide.{dec_le}
use native.Mathlib.Omega.{arith}
use mathlib.Core.Path.{◌≡◌, ◌∙◌, sym}
use mathlib.Core.List.{List}
use lib.ListN.{length, get_or, drop, set, length-set, drop_of_length-le}
use lib.Seq.{sets}
use Rattle.laws.specs.Store.{sets_out, copy_turn}

-- i of n units are stored, and what is still to be stored comes to the same
pub record Storing (n at : ℕ) (v before out : List ℕ) (i : ℕ) : Type 0 where
  pub within : i ≤ n
  pub still : sets out (at + i) (drop i v) ≡ sets before at v
  pub same : length out ≡ length before

-- one more
pub stored_one : {n at : ℕ} {v before out : List ℕ} {i x : ℕ} → Storing n at v before out i → i < n → i < length v → get_or v i 0 ≡ x
    → Storing n at v before (set out (at + i) x) (i + 1)
stored_one {n} {at} {v} {before} {out} {i} {x} s h l e =
    let turn = copy_turn out (at + i) i v l in
    let next : at + (i + 1) ≡ at + i + 1 = omega arith in
    record { within = omega arith; still = rw (next, ← e) (sym turn ∙ s.still); same = length-set out (at + i) x ∙ s.same }

-- all that there is room for: what is left is none, or has no place
pub all_stored : {n at : ℕ} {v before out : List ℕ} {i : ℕ} → Storing n at v before out i → n ≤ i → n ≡ min (length v) (length before - at) → out ≡ sets before at v
all_stored {n} {at} {v} {before} {out} {i} s h e = go (dec_le (length v) i)
  where
    go : Dec (length v ≤ i) → out ≡ sets before at v
    go (yes g) = let z : drop i v ≡ _ = drop_of_length-le v {i = i} g in rw z at s.still
    go (no g) =
        let g' = lt_of_not-le g in
        let z : sets out (at + i) (drop i v) ≡ out = sets_out out (at + i) (drop i v) (omega (arith, s.same, s.within)) in
        sym z ∙ s.still
