-- `units::parts::part_at` meets its contract. Assumes nothing.
use Rattle.laws.specs.Parts.{clipped}
use Rattle.units.proofs.parts.part_at.Goals as goal

pub returns : goal.returns
returns c =
    let a = c.args in
    clipped a.text.now a.start a.len c.min-from.result c.min.result c.min-from.ensures c.min.ensures
