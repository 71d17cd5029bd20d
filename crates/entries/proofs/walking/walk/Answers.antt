-- `entries::walking::walk` meets its contract. Assumes nothing.
use Prim.Native.Nat.{◌+◌, ◌≤◌}
use native.Mathlib.Omega.{arith}
use mathlib.Core.Path.{refl, ◌∙◌}
use lib.ListN.{length, drop, length-drop}
use Rattle.rules.specs.Block.{block_limit}
use Rattle.laws.specs.Store.{part_is}
use Rattle.entries.specs.Measured.{Stands}
use Rattle.laws.specs.BadEntry.{Cause}
use Rattle.entries.proofs.Passing.{none_walked, walked_few, stands_inside, one_walked}
use Rattle.entries.proofs.Passing.{bad_met, ended, final_met, nothing_walked, none_read, anyway}
use borrow.Author.Rules.{rules}
use Rattle.entries.proofs.walking.walk.Goals.{In-Some}
use Rattle.entries.proofs.walking.walk.Goals as goal

-- an entry that was measured at a place stands there in the block
stands : (c : In-Some) → Stands (drop c.loop-at.at c.args.block.now) c.in-Some.entry.key c.in-Some.entry.value
stands c = rw (part_is c.loop-at.at c.args.block.now) at c.in-Some.ensures

inside : (c : In-Some) → c.loop-at.at + (c.in-Some.entry.key + c.in-Some.entry.value + 2) ≤ length c.args.block.now
inside c = omega (arith, c.loop-at.invariant.0, stands_inside (stands c), length-drop c.loop-at.at c.args.block.now)

pub loop-at-init : goal.loop-at-init
loop-at-init c = (search rules, refl, none_walked _ _)

pub returns-then-count-eq0 : goal.returns-then-count-eq0
returns-then-count-eq0 c =
    let none = nothing_walked c.loop-at.invariant.2 c.if-count-eq0.true c.loop-at-test.true c.if-block-at-eq-NUL.true in
    record { told = c.no_entries.ensures; stores = anyway c.no_entries.result (none.1 ∙ rw (none_read _ none.0)) }

pub returns-then-block-at-eq-NUL : goal.returns-then-block-at-eq-NUL
returns-then-block-at-eq-NUL c =
    let (told, stored) = final_met c.loop-at.invariant.2 c.loop-at-test.true c.if-block-at-eq-NUL.true c.if-count-eq0.false in
    record { told = told; stores = stored }

pub overflow_add-count : goal.overflow_add-count
unfolding block_limit
overflow_add-count c =
    let l = c.loop-at in
    omega (arith, walked_few l.invariant.2, l.invariant.0, c.requires)

pub overflow_add-result-in_default : goal.overflow_add-result-in_default
unfolding block_limit
overflow_add-result-in_default c =
    let l = c.loop-at in
    omega (arith, walked_few l.invariant.2, l.invariant.0, c.requires)

pub returns-in_default : goal.returns-in_default
returns-in_default c =
    let cause : Cause (drop c.loop-at.at c.args.block.now) = rw (part_is c.loop-at.at c.args.block.now) at c.in_default.ensures in
    record { told = bad_met c.loop-at.invariant.2 cause; stores = tt }

pub put_entry-requires : goal.put_entry-requires
unfolding block_limit
put_entry-requires c =
    let short = c.requires in
    let fits = inside (goal.at.put_entry-requires c).In-Some in
    let few = walked_few c.loop-at.invariant.2 in
    (omega arith, omega arith, omega arith, omega arith)

pub loop-at-preserved : goal.loop-at-preserved
loop-at-preserved c =
    let here = (goal.at.loop-at-preserved c).In-Some in
    (inside here, search rules, one_walked c.loop-at.invariant.2 (stands here) c.put_entry.ensures)

pub overflow_add-result-2 : goal.overflow_add-result-2
unfolding block_limit
overflow_add-result-2 c =
    let l = c.loop-at in
    omega (arith, walked_few l.invariant.2, l.invariant.0, c.requires)

pub returns : goal.returns
returns c =
    let l = c.loop-at in
    record { told = bad_met l.invariant.2 (ended c.args.block.now l.at c.loop-at-test.false); stores = tt }
