-- `reading::laying::lay` meets its contract. Assumes nothing.
use Prim.Native.Nat.{min}
use mathlib.Core.Path.{◌≡◌}
use borrow.Author.Rules.{rules}
use Rattle.std.proofs.lemmas.Bool.Decides.{nat_tests}
use lib.ListN.{length}
use Rattle.laws.specs.Store.{back_is, part_is}
use Rattle.reading.proofs.Left as Y
use Rattle.reading.proofs.Left.{Laying}
use Rattle.reading.proofs.laying.lay.Goals as goal

pub loop-i-init : goal.loop-i-init
loop-i-init c =
    let m = c.read_first-first in
    Y.starts _ _ _ _ _ _ c.skip_blanks-i.ensures.0 c.skip_blanks-i.ensures.1 m.ensures.few

pub loop-i-preserved : goal.loop-i-preserved
loop-i-preserved c =
    let l = c.loop-i in
    let took = c.read_later-took in
    let from = c.min-from.result in
    let lesser : from ≡ min l.n (length l.text) = search (rules, nat_tests) in
    Y.turn l.invariant from _ c.loop-i-test.true (rw (part_is l.i _) at took.ensures) (part_is from l.text) (back_is from l.text _) lesser
    c.put_span-in-loop-i.ensures c.skip_blanks-i-in-loop-i.ensures.0 c.skip_blanks-i-in-loop-i.ensures.1

pub returns : goal.returns
returns c =
    let m = c.read_first-first in
    Y.finishes _ m.ensures c.put_span.ensures c.skip_blanks-i.ensures.0 c.loop-i.invariant c.loop-i-test.false
