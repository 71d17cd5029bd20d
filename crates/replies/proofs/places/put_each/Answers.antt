-- `replies::places::put_each` meets its contract. Assumes nothing.
use Rattle.replies.proofs.Putting.{each_done, each_step, all_left}
use Rattle.replies.proofs.places.put_each.Goals as goal

pub loop-item-init : goal.loop-item-init
loop-item-init g c = λ form puts. all_left _ _ _

pub loop-item-preserved : goal.loop-item-preserved
loop-item-preserved g c = λ form puts.
    each_step form _ _ _ (c.loop-item.invariant form puts) c.loop-item-test.true c.item-item.is (puts _ _ _ _ _ c.put_one-to.ensures)

pub returns : goal.returns
returns g c = λ form puts. each_done form _ _ (c.loop-item.invariant form puts) c.loop-item-test.false
