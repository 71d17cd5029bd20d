-- The units that end a run of the reader, and the length of the run. Assumes nothing.
use mathlib.Core.Path.{◌≡◌, sym}
use mathlib.Core.Bool.{false}
use mathlib.Core.List.{List}
use Prim.Native.Nat.{ℕ, ◌≤◌, ◌<◌}
use native.Mathlib.Omega.{arith}
use lib.ListN.{length, get_or}
use Rattle.std.proofs.lemmas.Bool.Decides.{nat_tests}
use Rattle.laws.specs.Run.{starts_at, starts_none, starts_with}
use Rattle.rules.specs.Unit.{is_quote}
use lib.Dec.{eqb}

-- whether a quote mark stands in front, by the unit there
pub quote_at : (xs : List ℕ) → 1 ≤ length xs → starts_with is_quote xs ≡ eqb (get_or xs 0 0) 34
quote_at xs h = sym (starts_at is_quote xs h)

pub quote_none : (xs : List ℕ) → length xs < 1 → starts_with is_quote xs ≡ false
quote_none xs h = sym (starts_none is_quote xs (omega arith))

pub ruleset quotes = (nat_tests, quote_at, quote_none)
