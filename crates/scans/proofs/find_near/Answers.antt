-- `scans::find_near` meets its contract. Assumes nothing.
use mathlib.Core.Path.{◌∙◌}
use Rattle.laws.specs.Scan.{before_two}
use Rattle.scans.proofs.find_near.Goals as goal

pub returns : goal.returns
returns c = c.find_slowly.ensures ∙ before_two _ _ _
