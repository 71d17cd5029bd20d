-- `comparing::all_same` meets its contract. Assumes nothing.
use Prim.Native.Nat.{zero-le}
use mathlib.Core.Path.{sym}
use Rattle.laws.specs.Equal.{equal_self, taken_equal}
use lib.Seq.{take_all}
use borrow.Author.Rules.{rules}
use Rattle.comparing.proofs.all_same.Goals as goal

pub loop-i-init : goal.loop-i-init
loop-i-init c = (zero-le, sym (equal_self _))

pub loop-i-preserved : goal.loop-i-preserved
loop-i-preserved c =
    let s = c.args in
    let l = c.loop-i in
    (search rules, rw l.invariant.1 (taken_equal s.a.now s.b.now l.i c.loop-i-test.true (search rules)))

pub returns : goal.returns
returns c =
    let s = c.args in
    let l = c.loop-i in
    rw (take_all l.i s.a.now c.loop-i-test.false, take_all l.i s.b.now (search rules)) at l.invariant.1
