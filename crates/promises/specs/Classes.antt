-- The classes of units: how many units have each, and what a class says of a unit. Assumes nothing.
use Rattle.std.specs.Prelude.{ℕ, zero, suc, ◌+◌, ◌≤◌, ◌≡◌, refl, [], ◌∷◌, map, eqb}
use Rattle.rules.specs.Choice.{pick}
use Rattle.rules.specs.Unit.{class_of}
use Rattle.laws.specs.Class as Class

-- how many of the units below n have a class
unfoldable pub having : ℕ → ℕ → ℕ
unfolding class_of
having class zero = 0
having class (suc n) = pick (eqb (class_of n) class) 1 0 + having class n

-- of the units 0 to 255, 1 has class 1, 2 have class 2, and so on: "How many" of the table of unit classes
pub class_counts : map (λ class. having class 256) (1 ∷ 2 ∷ 3 ∷ 4 ∷ 5 ∷ 6 ∷ 7 ∷ 0 ∷ []) ≡ 1 ∷ 2 ∷ 2 ∷ 1 ∷ 1 ∷ 1 ∷ 79 ∷ 169 ∷ []
unfolding having
class_counts = refl

-- a class is at most 7
pub class_bound : (unit : ℕ) → class_of unit ≤ 7
class_bound unit = Class.class_most unit

-- units above 255 are class 0
pub class_beyond : (unit : ℕ) → 256 ≤ unit → class_of unit ≡ 0
class_beyond unit h = Class.class_above unit h

-- each test of the rules on a unit is a test on its class
pub class_says : (unit : ℕ) → Class.Tested unit (class_of unit)
class_says unit = Class.class_tests unit
