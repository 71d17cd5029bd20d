-- `scans::four_have_either` meets its contract. Assumes nothing.
use Rattle.laws.specs.Any.{any_either}
use Rattle.laws.specs.Scan.{is_unit}
use Rattle.rules.specs.Record.{part}
use Rattle.scans.proofs.four_have_either.Goals as goal

pub returns : goal.returns
returns c =
    let s = c.args in
    rw (c.four_have.ensures, c.four_have-2.ensures) (any_either (is_unit s.a) (is_unit s.b) (part s.units.now s.at 4))
