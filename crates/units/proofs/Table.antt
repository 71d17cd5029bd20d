-- The class table at each entry. Assumes nothing.
use Prim.Native.Nat.{ℕ, zero, suc, ◌+◌, ◌<◌}
use native.Mathlib.Nat.{add-zero}
use native.Mathlib.Omega.{arith}
use mathlib.Core.Path.{◌≡◌, ◌∙◌}
use lib.ListN.{get_or}
use Rattle.rules.specs.Unit.{class_of}
use Rattle.units.specs.Table.{classes_from, class_table}

entry : (n unit k d : ℕ) → k < n → get_or (classes_from n unit) k d ≡ class_of (unit + k)
unfolding classes_from
entry zero unit k d h = absurd (omega arith)
entry (suc n) unit zero d h = rw add-zero
entry (suc n) unit (suc k) d h = let e : unit + 1 + k ≡ unit + suc k = omega arith in entry n (unit + 1) k d (omega arith) ∙ rw e

-- an entry of the table is its unit's class
pub class_at : (unit d : ℕ) → unit < 256 → get_or class_table unit d ≡ class_of unit
unfolding class_table
class_at unit d h = let e : 0 + unit ≡ unit = omega arith in entry 256 0 unit d h ∙ rw e
