-- `keys::laying::put_arguments` meets its contract. Assumes nothing.
use Prim.Native.Nat.{zero-le}
use native.Mathlib.Omega.{arith}
use mathlib.Core.Path.{refl}
use Rattle.laws.specs.Placed.{less_left, same_left}
use Rattle.keys.specs.Laid.{laid_arguments}
use Rattle.keys.proofs.Walk.{all_from, laid_count, laid_next, none_from}
use borrow.Author.Rules.{rules}
use Rattle.keys.proofs.laying.put_arguments.Goals as goal

pub loop-i-init : goal.loop-i-init
loop-i-init c = (zero-le, record { counts = refl; stores = refl })

pub put_argument-to-requires : goal.put_argument-to-requires
put_argument-to-requires c =
    let s = c.args in
    let l = c.loop-i in
    omega (arith, l.invariant.1.counts, same_left l.invariant.1, laid_count s.lent.now.text.now s.lent.now.records.now l.i (search rules) c.record_at-arg.ensures c.part_of-content.ensures.names, rw (all_from s.lent.now.text.now s.lent.now.records.now) at c.requires)

pub loop-i-preserved : goal.loop-i-preserved
loop-i-preserved c =
    let s = c.args in
    let l = c.loop-i in
    (search rules, less_left (rw (laid_next s.lent.now.text.now s.lent.now.records.now l.i (search rules) c.record_at-arg.ensures c.part_of-content.ensures.names) at l.invariant.1) c.put_argument-to.ensures)

pub shape_of-out : goal.shape_of-out
shape_of-out c = same_left c.loop-i.invariant.1

pub returns : goal.returns
unfolding laid_arguments
returns c =
    let s = c.args in
    let l = c.loop-i in
    rw all_from (rw (none_from s.lent.now.text.now s.lent.now.records.now l.i (search rules)) at l.invariant.1.stores)
