-- `quoting::escapes::put_content` meets its contract. Assumes nothing.
use Prim.Native.Nat.{ℕ, ◌+◌, ◌-◌, ◌≤◌, ◌<◌, min}
use native.Mathlib.Omega.{arith}
use mathlib.Core.Path.{◌∙◌, ◌≡◌, ap, sym}
use mathlib.Core.List.{List}
use lib.ListN.{drop, length, length-drop, length-take, take}
use lib.Seq.{drop-drop, length-take-le}
use Rattle.rules.specs.Record.{part}
use Rattle.laws.specs.Store.{part_is}
use Rattle.quoting.proofs.Midway.{at_front, room_further, plain_further, at_end_lem, plain_room, same_places, part_further}
use borrow.Author.Rules.{rules}
use Rattle.quoting.proofs.escapes.put_content.Goals as goal

-- what is left of an argument from a place on
abbrev rest : List ℕ → ℕ → List ℕ
rest xs i = take (length xs - i) (drop i xs)

-- the units that go one by one end within the argument, and behind the n plain ones, and where the argument goes on there are some
within : (xs : List ℕ) (i n end : ℕ) → n ≤ length (rest xs i) → end ≡ min (length (rest xs i)) (n + 16) → i < length xs
    → (n ≤ end) × (i + end ≤ length xs) × (0 < end)
within xs i n end h e l =
    let w = ap length (part_is i xs) ∙ length-drop i xs in
    (omega arith, omega arith, omega arith)

-- they are a part of the argument
units_are : (xs : List ℕ) (i n end : ℕ) → take (end - n) (drop n (rest xs i)) ≡ part xs (i + n) (end - n)
units_are xs i n end = rw (part_is i xs, drop-drop)

pub loop-i-init : goal.loop-i-init
loop-i-init c = (search rules, at_front)

pub slice_bounds-copy_run-end : goal.slice_bounds-copy_run-end
slice_bounds-copy_run-end c = sym (length-take-le _ _ c.plain_eights-n.ensures.inside)

pub overflow_add-next : goal.overflow_add-next
overflow_add-next c =
    let l = c.loop-i in
    omega (arith, c.requires, plain_room l.i _ (part_is l.i c.args.arg.now) c.plain_eights-n.ensures l.invariant.1)

pub put_units-spot-requires : goal.put_units-spot-requires
put_units-spot-requires c =
    let xs = c.args.arg.now in
    let l = c.loop-i in
    let n = c.plain_eights-n.result in
    let end = c.min-end.result in
    let w = within xs l.i n end c.plain_eights-n.ensures.inside c.min-end.ensures c.loop-i-test.true in
    let u = units_are xs l.i n end in
    let g = plain_further l.i _ (part_is l.i xs) c.plain_eights-n.ensures l.invariant.1 l.invariant.0 c.copy_run.ensures c.still_count.ensures in
    let room = rw (← u) at (room_further (l.i + n) (end - n) g) in
    (omega (arith, c.requires, room), omega (arith, g.few, w.1, ap length u, length-take (end - n) (drop (l.i + n) xs), length-drop (l.i + n) xs))

pub overflow_add-i : goal.overflow_add-i
overflow_add-i c = omega (arith, within c.args.arg.now c.loop-i.i _ _ c.plain_eights-n.ensures.inside c.min-end.ensures c.loop-i-test.true)

pub loop-i-smaller : goal.loop-i-smaller
loop-i-smaller c = omega (arith, within c.args.arg.now c.loop-i.i _ _ c.plain_eights-n.ensures.inside c.min-end.ensures c.loop-i-test.true)

pub loop-i-preserved : goal.loop-i-preserved
loop-i-preserved c =
    let xs = c.args.arg.now in
    let l = c.loop-i in
    let n = c.plain_eights-n.result in
    let end = c.min-end.result in
    let w = within xs l.i n end c.plain_eights-n.ensures.inside c.min-end.ensures c.loop-i-test.true in
    let g = plain_further l.i _ (part_is l.i xs) c.plain_eights-n.ensures l.invariant.1 l.invariant.0 c.copy_run.ensures c.still_count.ensures in
    let e : l.i + n + (end - n) ≡ l.i + end = omega arith in
    (omega (arith, w), rw e at (part_further (l.i + n) (end - n) g (rw (units_are xs l.i n end) at c.put_units-spot.ensures) (omega (arith, w))))

pub shape_of-out : goal.shape_of-out
shape_of-out c = same_places c.loop-i.invariant.1

pub returns : goal.returns
returns c = at_end_lem c.loop-i.invariant.1 c.loop-i-test.false
