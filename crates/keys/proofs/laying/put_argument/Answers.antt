-- `keys::laying::put_argument` meets its contract. Assumes nothing.
use Rattle.keys.proofs.Walk.{argument_placed}
use Rattle.keys.proofs.laying.put_argument.Goals as goal

pub returns : goal.returns
returns c =
    let s = c.args in
    argument_placed s.kind s.content.now c.unit_of.ensures c.unit_of-2.ensures c.put.ensures c.put-2.ensures c.copy_run.ensures
