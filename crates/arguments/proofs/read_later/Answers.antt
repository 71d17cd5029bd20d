-- `arguments::read_later` meets its contract. Assumes nothing.
use native.Mathlib.Omega.{arith}
use mathlib.Core.Path.{◌∙◌, sym}
use lib.ListN.{drop, get_or, length-drop}
use Rattle.arguments.specs.Step.{step_at}
use Rattle.arguments.proofs.Next.{ends_line, stops}
use Rattle.arguments.proofs.Step.{Steps, steps_at, turn}
use Rattle.arguments.proofs.Still as still
use Rattle.arguments.proofs.read_later.Goals.{Else-is_end}
use Rattle.arguments.proofs.read_later.Goals as goal

-- what a step is
taken : (c : Else-is_end) → (let h = c.loop-here.here in let here = drop h.used c.args.rest.now in Steps h.quoted here (step_at h.quoted here))
taken c =
    let h = c.loop-here.here in
    steps_at h.quoted _ h.used c.loop-here-test.true (sym c.is_end.ensures ∙ c.if-is_end.false)

pub returns-then-is_end : goal.returns-then-is_end
returns-then-is_end c =
    let h = c.loop-here.here in
    still.stops c.loop-here.invariant c.loop-here-test.true (stops h.quoted (get_or c.args.rest.now h.used 0) _ (sym c.is_end.ensures ∙ c.if-is_end.true))

pub loop-here-smaller : goal.loop-here-smaller
loop-here-smaller c =
    let s = taken (goal.at.loop-here-smaller c).Else-is_end in
    omega (arith, s.some, s.within, length-drop c.loop-here.here.used c.args.rest.now, c.read_step-here.ensures.uses)

pub loop-here-preserved : goal.loop-here-preserved
loop-here-preserved c =
    turn _ c.loop-here.invariant (taken (goal.at.loop-here-preserved c).Else-is_end) c.read_step-here.ensures

pub returns : goal.returns
returns c = still.finishes c.loop-here.invariant c.loop-here-test.false (ends_line c.loop-here.here.quoted)
