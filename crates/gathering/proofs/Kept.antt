-- What holds while words are gathered. Assumes nothing.
use Prim.Native.Nat.{ℕ, ◌≤◌}
use mathlib.Core.Path.{◌≡◌}
use mathlib.Core.List.{List}
use lib.ListN.{length}

-- what is lent keeps its length, and the next word and its record come within it
pub record Spotted (text₀ table₀ text table : List ℕ) (at numbers : ℕ) : Type 0 where
  pub texts : length text ≡ length text₀
  pub tables : length table ≡ length table₀
  pub at_in : at ≤ length text₀
  pub numbers_in : numbers ≤ length table₀
