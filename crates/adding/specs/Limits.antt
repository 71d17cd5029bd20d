-- The most units of a line of either kind, and a count of units that stops at a cap. Assumes nothing.
use Rattle.std.specs.Prelude.{ℕ, ◌+◌, ◌<◌, min, Bool, true, false}
use Rattle.std.proofs.Common.{arith}
use Rattle.rules.specs.Building.{line_limit, batch_limit}

-- the most units of a line of either kind
unfoldable pub limit_of : Bool → ℕ
unfolding line_limit batch_limit
limit_of true = batch_limit
limit_of false = line_limit

-- where a count stops, so that no sum over many records wraps
unfoldable pub count_cap : ℕ
count_cap = 65536

-- units and some more, up to the cap
unfoldable pub counted : ℕ → ℕ → ℕ
unfolding count_cap
counted units more = min count_cap (units + more)

-- a count at the cap is past the limit of every line
pub cap_covers : (batch : Bool) → limit_of batch < count_cap
unfolding limit_of line_limit batch_limit count_cap
cap_covers true = omega arith
cap_covers false = omega arith
