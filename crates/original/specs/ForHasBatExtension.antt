-- `has_bat_extension` is the test on the batch suffix. Assumes nothing.
use Rattle.std.specs.Prelude.{ℕ, ◌-◌, ◌≡◌, refl, Bool, true, false, List, [], ◌∷◌, eqb, length, drop}
use Rattle.std.proofs.Common.{arith, le-leb}
use Rattle.std.proofs.Math.Option.{some}
use Rattle.rules.specs.Choice.{either, both}
use Rattle.rules.specs.Suffix.{one_of, is_suffix, has_batch_suffix}
use Rattle.laws.specs.Equal.{both_assoc}
use Rattle.original.specs.HasBatExtension.{matches, has_bat_extension}

common : (a b c : Bool) → either (both a b) (both a c) ≡ both a (either b c)
common true b c = refl
common false b c = refl

-- two runs of four tests that begin alike
common_first : (a b c d e f g : Bool) → either (both (both (both a b) c) d) (both (both (both a e) f) g) ≡ both a (either (both b (both c d)) (both e (both f g)))
common_first true b c d e f g = rw (both_assoc b c d, both_assoc e f g) (common true (both b (both c d)) (both e (both f g)))
common_first false b c d e f g = refl

-- the patterns say of the last four units what the rule says
matched : (xs : List ℕ) → matches (some xs) ≡ is_suffix xs
unfolding matches is_suffix
matched [] = refl
matched (a ∷ []) = refl
matched (a ∷ b ∷ []) = refl
matched (a ∷ b ∷ c ∷ []) = refl
matched (a ∷ b ∷ c ∷ d ∷ []) =
    common_first (eqb a 46) (one_of 98 66 b) (one_of 97 65 c) (one_of 116 84 d) (one_of 99 67 b) (one_of 109 77 c) (one_of 100 68 d)
matched (a ∷ b ∷ c ∷ d ∷ e ∷ more) = refl

-- of every path it says what the rule says
pub has_bat_extension_same : (program : List ℕ) → has_bat_extension program ≡ has_batch_suffix program
unfolding has_bat_extension has_batch_suffix
has_bat_extension_same [] = refl
has_bat_extension_same (a ∷ []) = refl
has_bat_extension_same (a ∷ b ∷ []) = refl
has_bat_extension_same (a ∷ b ∷ c ∷ []) = refl
has_bat_extension_same (a ∷ b ∷ c ∷ d ∷ more) =
    let len = length (a ∷ b ∷ c ∷ d ∷ more) in
    rw (le-leb 4 len (omega arith), le-leb (len - 4) len (omega arith)) (matched (drop (len - 4) (a ∷ b ∷ c ∷ d ∷ more)))
