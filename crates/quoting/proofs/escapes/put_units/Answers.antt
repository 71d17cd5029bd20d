-- `quoting::escapes::put_units` meets its contract. Assumes nothing.
use native.Mathlib.Omega.{arith}
use Rattle.quoting.proofs.Midway.{at_front, room_further, at_end_lem, one_part, same_places, part_further}
use borrow.Author.Rules.{rules}
use Rattle.quoting.proofs.escapes.put_units.Goals as goal

pub loop-unit-init : goal.loop-unit-init
loop-unit-init c = at_front

pub put_unit-spot-requires : goal.put_unit-spot-requires
put_unit-spot-requires c =
    let a = c.args in
    let l = c.loop-unit in
    (omega (arith, c.requires.0, rw (one_part a.part.now l.unit-index c.loop-unit-test.true) at (room_further l.unit-index 1 l.invariant)), omega (arith, c.requires.1, l.invariant.few))

pub loop-unit-preserved : goal.loop-unit-preserved
loop-unit-preserved c =
    let a = c.args in
    let l = c.loop-unit in
    part_further l.unit-index 1 l.invariant (rw (one_part a.part.now l.unit-index c.loop-unit-test.true) c.put_unit-spot.ensures) (search rules)

pub shape_of-out : goal.shape_of-out
shape_of-out c = same_places c.loop-unit.invariant

pub returns : goal.returns
returns c = at_end_lem c.loop-unit.invariant c.loop-unit-test.false
