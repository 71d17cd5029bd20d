-- How the limits stand to each other. Assumes nothing.
use Rattle.std.specs.Prelude.{◌≤◌}
use Rattle.std.proofs.Common.{arith}
use Rattle.rules.specs.Building.{line_limit}
use Rattle.rules.specs.Reading.{read_limit}

-- a line that may be built is not too long to be read
pub line_readable : line_limit ≤ read_limit
unfolding line_limit read_limit
line_readable = omega arith
