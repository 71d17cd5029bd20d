-- `scans::eight_have` meets its contract. Assumes nothing.
use Rattle.laws.specs.Any.{any_parts}
use Rattle.laws.specs.Scan.{is_unit}
use Rattle.scans.proofs.eight_have.Goals as goal

pub returns : goal.returns
returns c =
    let a = c.args in
    rw (c.four_have.ensures, c.four_have-2.ensures) (any_parts (is_unit a.x) a.units.now a.at 4 4)
