-- The units of a character, stored. Assumes nothing.
use Rattle.std.proofs.Common.{ℕ, ◌+◌, ◌-◌, ◌/◌, ◌%◌, ◌≤◌, ◌<◌, ◌≡◌, List, set, lt-ltb, le-ltb}
use Rattle.laws.specs.Placed.{Placed, unit_placed, two_placed}
use Rattle.terminal.specs.Utf8.{units_of}

module _ (value at : ℕ) {before after : List ℕ} where
  pub one_unit : value < 65536 → after ≡ set before at value → Placed (units_of value) at (at + 1) before after
  unfolding units_of
  one_unit h s = rw (lt-ltb value 65536 h) (unit_placed value at s)

  pub two_units : (middle : List ℕ) → 65536 ≤ value → middle ≡ set before at (55296 + (value - 65536) / 1024) → after ≡ set middle (at + 1) (56320 + (value - 65536) % 1024)
      → Placed (units_of value) at (at + 2) before after
  unfolding units_of
  two_units middle h s t = rw (le-ltb value 65536 h) (two_placed _ _ at s t)
