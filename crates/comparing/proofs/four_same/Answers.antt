-- `comparing::four_same` meets its contract. Assumes nothing.
use Rattle.laws.specs.Equal.{four_equal}
use Rattle.comparing.proofs.four_same.Goals as goal

pub returns : goal.returns
returns c =
    let s = c.args in
    four_equal s.a.now s.b.now s.at c.requires.0 c.requires.1
