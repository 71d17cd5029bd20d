-- `adding::limits::count_on` meets its contract. Assumes nothing.
use native.Mathlib.Omega.{arith}
use Rattle.adding.specs.Limits.{count_cap, counted}
use Rattle.adding.proofs.limits.count_on.Goals as goal

pub returns : goal.returns
unfolding counted count_cap
returns c = omega arith
