-- `comparing::fours_same` meets its contract. Assumes nothing.
use mathlib.Core.Path.{◌≡◌}
use Rattle.laws.specs.Equal.{two_decide}
use Prim.Native.Nat.{◌+◌, ◌-◌}
use lib.ListN.{length}
use borrow.Author.Rules.{rules}
use Rattle.comparing.proofs.fours_same.Goals as goal

pub returns : goal.returns
returns c =
    let s = c.args in
    let last = length s.a.now - 4 in
    let e : last + 4 ≡ length s.a.now = search rules in
    rw (c.four_same.ensures, c.four_same-2.ensures) (two_decide s.a.now s.b.now last 4 4 c.requires.0 e (search rules))
