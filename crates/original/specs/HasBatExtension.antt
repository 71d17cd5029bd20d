-- The closure `has_bat_extension`. Assumes nothing.
-- Behind each line stands where it is in the Rust: `process` is sys/process/windows.rs.
use Rattle.std.specs.Prelude.{ℕ, Bool, false, List, [], ◌∷◌, length, ◌==◌, ◌&&◌, ◌||◌}
use Rattle.std.proofs.Math.Option.{Option, none, some}
use Rattle.original.specs.Shims.{and_then, checked_sub, get_from}

-- `matches!`: two patterns of four units each, and in each of them three alternations of two
unfoldable pub matches : Option (List ℕ) → Bool
matches none = false  -- process 297: fewer than four units
matches (some []) = false  -- process 298: no pattern
matches (some (a ∷ [])) = false  -- process 298: no pattern
matches (some (a ∷ b ∷ [])) = false  -- process 298: no pattern
matches (some (a ∷ b ∷ c ∷ [])) = false  -- process 298: no pattern
matches (some (a ∷ b ∷ c ∷ d ∷ [])) =
    (a == 46 && (b == 98 || b == 66) && (c == 97 || c == 65) && (d == 116 || d == 84))  -- process 298, the first pattern
    || (a == 46 && (b == 99 || b == 67) && (c == 109 || c == 77) && (d == 100 || d == 68))  -- process 298, the second
matches (some (a ∷ b ∷ c ∷ d ∷ e ∷ more)) = false  -- process 298: no pattern

-- `has_bat_extension`
unfoldable pub has_bat_extension : List ℕ → Bool
unfolding matches
has_bat_extension program = matches (and_then (checked_sub (length program) 4) (λ i. get_from program i))  -- process 294 - 297
