-- The part of a text that a start and a length name. Assumes nothing.
use Rattle.std.specs.Prelude.{ℕ, ◌^◌, ◌<◌, ◌≡◌, List, length}
use Rattle.rules.specs.Record.{part}

-- the units that a record names: its length is a `u32`, so there are fewer than 2^32
pub record Named (text : List ℕ) (start len : ℕ) (units : List ℕ) : Type 0 where
  pub names : units ≡ part text start len
  pub short : length units < 2 ^ 32
