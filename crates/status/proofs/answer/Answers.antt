-- `status::answer` meets its contract. Assumes nothing.
use Rattle.status.proofs.Fitting.{room}
use Rattle.status.proofs.answer.Goals as goal

pub returns : goal.returns
returns c =
    let a = c.args in
    let tested = c.if-out-units in
    room a.front.now a.digits.now a.out.now _ _ tested.false c.copy_run.ensures c.copy_run-2.ensures
