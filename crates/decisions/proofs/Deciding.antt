-- What decides on quotes: a search for a unit, by its class. Assumes nothing.
use Prim.Native.Nat.{ℕ, zero, suc, ◌+◌, ◌<◌, ◌≤◌}
use native.Mathlib.Omega.{arith}
use native.Mathlib.Numerals.{add-one}
use mathlib.Core.Path.{◌≡◌, refl, sym, ◌∙◌}
use mathlib.Core.Bool.{Bool, true, false}
use mathlib.Core.List.{List, [], ◌∷◌}
use borrow.Author.Tests.{ne_eqb}
use lib.Dec.{eqb}
use lib.ListN.{length, drop, get_or}
use lib.Seq.{drop-cons}
use Rattle.std.specs.Prelude.{◌==◌, ◌/◌, ◌^◌, nat_eq, bit_and}
use Rattle.rules.specs.Choice.{either, any, is_empty}
use Rattle.rules.specs.Unit.{class_of}
use Rattle.laws.specs.Class.{class_most, class_tests}
use Rattle.decisions.specs.Settling.{is_settling, settles_by}

-- one unit further of a search for any that passes the test
pub any_turn : (p : ℕ → Bool) (xs : List ℕ) (i : ℕ) (found : Bool) → i < length xs → found ≡ p (get_or xs i 0)
    → any p (drop i xs) ≡ either found (any p (drop (i + 1) xs))
any_turn p xs i found l e = rw (e, add-one i, drop-cons xs i 0)

-- a list is empty where its length is 0
pub counted_empty : (xs : List ℕ) → is_empty xs ≡ (length xs == 0)
counted_empty [] = refl
counted_empty (x ∷ xs) = rw (ne_eqb (length (x ∷ xs)) 0 (λ e. omega arith))

-- tests asked in turn
pub in_turn : (a b c d : Bool) {v r : Bool} → v ≡ either (either a b) c → r ≡ either v d → r ≡ either a (either b (either c d))
in_turn true b c d e f = f ∙ rw e
in_turn false true c d e f = f ∙ rw e
in_turn false false c d e f = f ∙ rw e

-- ---- a unit's class

-- of the classes, all but 0 and 5 are those of forcing units
forcing_classes : (class : ℕ) → class ≤ 7 → settles_by true class ≡ any (eqb class) (1 ∷ 2 ∷ 3 ∷ 4 ∷ 6 ∷ 7 ∷ [])
forcing_classes zero h = refl
forcing_classes (suc zero) h = refl
forcing_classes (suc (suc zero)) h = refl
forcing_classes (suc (suc (suc zero))) h = refl
forcing_classes (suc (suc (suc (suc zero)))) h = refl
forcing_classes (suc (suc (suc (suc (suc zero))))) h = refl
forcing_classes (suc (suc (suc (suc (suc (suc zero)))))) h = refl
forcing_classes (suc (suc (suc (suc (suc (suc (suc zero))))))) h = refl
forcing_classes (suc (suc (suc (suc (suc (suc (suc (suc class)))))))) h = absurd (omega arith)

-- the bits of 222 are the classes of forcing units
pub forcing_bits : (class : ℕ) → class < 8 → nat_eq (bit_and (222 / 2 ^ class) 1) 1 ≡ settles_by true class
forcing_bits zero h = refl
forcing_bits (suc zero) h = refl
forcing_bits (suc (suc zero)) h = refl
forcing_bits (suc (suc (suc zero))) h = refl
forcing_bits (suc (suc (suc (suc zero)))) h = refl
forcing_bits (suc (suc (suc (suc (suc zero))))) h = refl
forcing_bits (suc (suc (suc (suc (suc (suc zero)))))) h = refl
forcing_bits (suc (suc (suc (suc (suc (suc (suc zero))))))) h = refl
forcing_bits (suc (suc (suc (suc (suc (suc (suc (suc class)))))))) h = absurd (omega arith)

-- a unit's class tells whether it settles that quotes are needed
pub class_settles : (batch : Bool) (x : ℕ) → settles_by batch (class_of x) ≡ is_settling batch x
class_settles true x = forcing_classes (class_of x) (class_most x) ∙ sym (class_tests x).forcing
class_settles false x = sym (class_tests x).blank
