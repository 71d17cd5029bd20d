-- Counts of units that stop at a cap: sums, and what a count below or past a number says. Assumes nothing.
use Rattle.std.specs.Prelude.{ℕ, ◌+◌, ◌≤◌, ◌<◌, ◌≡◌}
use Rattle.std.proofs.Common.{arith}
use Rattle.adding.specs.Limits.{count_cap, counted}

-- below the cap a count is the sum
pub counted_below : (units m : ℕ) → units + m < count_cap → counted units m ≡ units + m
unfolding counted
counted_below units m h = omega arith

-- what is below the cap has been counted whole
pub counted_whole : (units m : ℕ) → counted units m < count_cap → (counted units m ≡ units + m) × (units < count_cap)
unfolding counted
counted_whole units m h = (omega arith, omega arith)

-- one count behind another
pub counted_twice : (units m n : ℕ) → counted (counted units m) n ≡ counted units (m + n)
unfolding counted
counted_twice units m n = omega arith

-- no count passes the cap
pub counted_most : (units m : ℕ) → counted units m ≤ count_cap
unfolding counted
counted_most units m = omega arith

-- a count of nothing more, within the cap
pub counted_none : (units : ℕ) → units ≤ count_cap → counted units 0 ≡ units
unfolding counted
counted_none units h = omega arith

-- of one sum the count is one
pub counted_sum : (m n k : ℕ) → m + n ≡ k → counted m n ≡ counted 0 k
unfolding counted
counted_sum m n k e = omega arith

-- a count that is past a number was of more than that number
pub counted_past : (m n k : ℕ) → k ≡ counted 0 n → m < k → m < n
unfolding counted
counted_past m n k e h = omega arith

-- a count that is at most a number below the cap was of so many
pub counted_is : (m n k : ℕ) → k ≡ counted 0 n → k ≤ m → m < count_cap → k ≡ n
unfolding counted
counted_is m n k e h g = omega arith
