-- `decisions::has_settling` meets its contract. Assumes nothing.
use native.Mathlib.Omega.{arith}
use lib.ListN.{get_or}
use mathlib.Core.Path.{◌∙◌, sym}
use Rattle.laws.specs.Class.{class_most}
use Rattle.decisions.specs.Settling.{is_settling}
use Rattle.decisions.proofs.Deciding.{any_turn, class_settles}
use Rattle.decisions.proofs.has_settling.Goals as goal

pub settles-requires : goal.settles-requires
settles-requires c =
    let most = class_most (get_or c.args.arg.now c.loop-unit.unit-index 0) in
    rw c.class_of.ensures (omega (arith, most))

pub returns-then-settles : goal.returns-then-settles
returns-then-settles c =
    let t = any_turn (is_settling c.args.batch) _ _ _ c.loop-unit-test.true (c.settles.ensures ∙ rw c.class_of.ensures (class_settles c.args.batch _)) in
    sym (rw c.if-settles.true at t) ∙ c.loop-unit.invariant

pub loop-unit-preserved : goal.loop-unit-preserved
loop-unit-preserved c =
    let t = any_turn (is_settling c.args.batch) _ _ _ c.loop-unit-test.true (c.settles.ensures ∙ rw c.class_of.ensures (class_settles c.args.batch _)) in
    sym (rw c.if-settles.false at t) ∙ c.loop-unit.invariant
