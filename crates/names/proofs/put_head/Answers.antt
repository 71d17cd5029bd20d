-- `names::put_head` meets its contract. Assumes nothing.
use native.Mathlib.Omega.{arith}
use Rattle.names.proofs.Head.{front_short, head_stored}
use Rattle.names.proofs.put_head.Goals as goal

pub overflow_add-start : goal.overflow_add-start
overflow_add-start c =
    omega (arith, front_short c.args.batch, c.put_front-at.ensures.counts)

pub overflow_add-end : goal.overflow_add-end
overflow_add-end c =
    omega (arith, front_short c.args.batch, c.put_front-at.ensures.counts)

pub overflow_add-result : goal.overflow_add-result
overflow_add-result c =
    omega (arith, front_short c.args.batch, c.put_front-at.ensures.counts)

pub returns : goal.returns
returns c =
    let a = c.args in
    head_stored a.batch a.name.now c.put_front-at.ensures c.put.ensures c.copy_run.ensures c.put-2.ensures
