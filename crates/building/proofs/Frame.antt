-- How many units stand round the arguments of a line. Assumes nothing.
use Prim.Native.Nat.{ℕ}
use native.Mathlib.Omega.{arith}
use mathlib.Core.Path.{◌≡◌}
use mathlib.Core.Bool.{true, false}
use mathlib.Core.List.{List}
use lib.ListN.{length, length-append}
use Rattle.rules.specs.Unit.{units}
use Rattle.rules.specs.Building.{batch_front}
use Rattle.names.specs.Name.{front_of, head_of}
use Rattle.adding.specs.Limits.{counted}
use Rattle.building.specs.Line.{frame_units}

-- in a batch line 31 units more than the name
pub batch_frame : (name : List ℕ) → counted (length name) 31 ≡ frame_units true name
unfolding frame_units head_of front_of batch_front units counted
batch_frame name = simp length-append (omega arith)

-- in an ordinary one 2
pub plain_frame : (name : List ℕ) → counted (length name) 2 ≡ frame_units false name
unfolding frame_units head_of front_of counted
plain_frame name = simp length-append (omega arith)
