-- `arguments::steps::read_step` meets its contract. Assumes nothing.
use native.Mathlib.Omega.{arith}
use mathlib.Core.Path.{◌∙◌, ap}
use lib.Seq.{sets}
use Rattle.arguments.specs.Run.{is_taken}
use Rattle.laws.specs.Run.{RunAt, part_run, run_at}
use Rattle.arguments.proofs.Step.{at_mark, at_slash, plain}
use Rattle.arguments.proofs.steps.read_step.Goals.{After-plain_run-run}
use Rattle.arguments.proofs.steps.read_step.Goals as goal

-- the run of plain units at the point
run_is : (c : After-plain_run-run) → RunAt (is_taken c.args.here.quoted) c.args.rest.now c.args.here.used c.plain_run-run.result
run_is c =
    let a = c.args in
    run_at (is_taken a.here.quoted) a.rest.now a.here.used (omega (arith, c.requires)) c.plain_run-run.ensures

pub returns-in-34 : goal.returns-in-34
returns-in-34 c =
    at_mark _ _ c.requires.0 c.in-34.is c.read_mark.ensures

pub returns-in-92 : goal.returns-in-92
returns-in-92 c =
    at_slash _ _ c.requires.0 c.in-92.is c.read_slashes.ensures

pub overflow_add-end : goal.overflow_add-end
overflow_add-end c = omega (arith, run_is c)

pub slice_bounds-copy_run-end : goal.slice_bounds-copy_run-end
slice_bounds-copy_run-end c = omega (arith, run_is (goal.at.slice_bounds-copy_run-end c).After-plain_run-run)

pub returns-in_default : goal.returns-in_default
returns-in_default c =
    let a = c.args in
    let r = run_is (goal.at.returns-in_default c).After-plain_run-run in
    plain a.rest.now a.here c.requires.0 _ (omega arith) (omega arith) r.0 (c.copy_run.ensures ∙ ap (sets a.out.now a.here.units) (part_run a.rest.now a.here.used c.plain_run-run.result))
