-- The units that the bytes of a dump stand for, in UTF-16 little-endian. Assumes nothing.
use Rattle.std.specs.Prelude.{ℕ, ◌+◌, ◌*◌, ◌≡◌, refl, List, [], ◌∷◌, ◌++◌}
use Rattle.rules.specs.Unit.{units}

-- a unit is two bytes, the low one first; a byte that is left at the end is none
unfoldable pub dumped : List ℕ → List ℕ
dumped [] = []
dumped (low ∷ []) = []
dumped (low ∷ high ∷ more) = (low + 256 * high) ∷ dumped more

-- `A=`, the euro sign, the largest unit, and a byte that is left
pub dumped_so : dumped (65 ∷ 0 ∷ 61 ∷ 0 ∷ 172 ∷ 32 ∷ 255 ∷ 255 ∷ 7 ∷ []) ≡ units "A=" ++ 8364 ∷ 65535 ∷ []
unfolding dumped units
dumped_so = refl
