-- What a line of either kind starts with. Assumes nothing.
use Rattle.std.specs.Prelude.{ℕ, Bool, true, false, List, [], ◌++◌}
use Rattle.rules.specs.Quoting.{enclosed}
use Rattle.rules.specs.Building.{script_of, batch_front}

-- the name that a line starts with: the program, or the script without one final NUL
unfoldable pub name_of : Bool → List ℕ → List ℕ
unfolding script_of
name_of true lent = script_of lent
name_of false lent = lent

-- what stands before the name: the 28 units of a batch line, or nothing
unfoldable pub front_of : Bool → List ℕ
unfolding batch_front
front_of true = batch_front
front_of false = []

-- what stands before the arguments
unfoldable pub head_of : Bool → List ℕ → List ℕ
unfolding front_of
head_of batch name = front_of batch ++ enclosed name
