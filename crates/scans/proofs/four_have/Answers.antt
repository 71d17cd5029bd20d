-- `scans::four_have` meets its contract. Assumes nothing.
use Rattle.laws.specs.Any.{any_four}
use Rattle.laws.specs.Scan.{is_unit}
use Rattle.scans.proofs.four_have.Goals as goal

pub returns : goal.returns
returns c = let a = c.args in any_four (is_unit a.x) a.units.now a.at c.requires
