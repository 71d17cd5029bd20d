-- `comparing::eight_same` meets its contract. Assumes nothing.
use Rattle.laws.specs.Equal.{parts_equal}
use borrow.Author.Rules.{rules}
use Rattle.comparing.proofs.eight_same.Goals as goal

pub returns : goal.returns
returns c =
    let s = c.args in
    rw (c.four_same.ensures, c.four_same-2.ensures) (parts_equal s.a.now s.b.now s.at 4 4 (search rules) (search rules))
