-- The table of unit classes. Assumes nothing.
use Rattle.std.specs.Prelude.{ℕ, zero, suc, ◌+◌, List, [], ◌∷◌}
use Rattle.rules.specs.Unit.{class_of}

-- the classes of so many units, from the one given on
unfoldable pub classes_from : ℕ → ℕ → List ℕ
unfolding class_of
classes_from zero unit = []
classes_from (suc n) unit = class_of unit ∷ classes_from n (unit + 1)

-- "the class of each unit from 0 to 255 stands in one table of 256 numbers"
unfoldable pub class_table : List ℕ
unfolding classes_from
class_table = classes_from 256 0
