-- `slices::make_line_of` meets its contract. Assumes nothing.
use Rattle.std.proofs.lemmas.Result.{err_from_is_err_and}
use borrow.Author.Rules.{rules}
use mathlib.Core.Path.{refl}
use Rattle.building.specs.Starts.{stands_begun}
use Rattle.building.specs.Turns.{stands_last, turns}
use Rattle.slices.proofs.make_line_of.Goals as goal

pub loop-next-init : goal.loop-next-init
loop-next-init c =
    let a = c.args in
    (rw c.begin-work.ensures (stands_begun a.batch a.force_quotes a.lent.now a.args.now a.text.now a.out.now), refl)

pub loop-next-smaller : goal.loop-next-smaller
loop-next-smaller c =
    (turns _ _ _ _ _ c.loop-next.invariant.0 (λ h. c.record_at-arg.ensures) (rw c.in-On.is at c.in_ok-next.ensures)).1

pub loop-next-preserved : goal.loop-next-preserved
loop-next-preserved c =
    ((turns _ _ _ _ _ c.loop-next.invariant.0 (λ h. c.record_at-arg.ensures) (rw c.in-On.is at c.in_ok-next.ensures)).0, search rules)

pub returns-in_err-next : goal.returns-in_err-next
returns-in_err-next c =
    let p = err_from_is_err_and c.from_residual.result c.from_residual.ensures.1 in
    rw (p.1, p.2) (turns _ _ _ _ _ c.loop-next.invariant.0 (λ h. c.record_at-arg.ensures) c.in_err-next.ensures)

pub returns-in-Done : goal.returns-in-Done
returns-in-Done c =
    stands_last _ _ _ _ _ c.loop-next.invariant.0 (λ h. c.record_at-arg.ensures) (rw c.in-Done.is at c.in_ok-next.ensures)
