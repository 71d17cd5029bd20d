-- `replies::answers::put_texts` meets its contract. Assumes nothing.
use Rattle.laws.specs.Store.{part_is}
use Rattle.replies.proofs.Putting.{texts_step}
use Rattle.replies.proofs.answers.put_texts.Goals as goal

pub loop-rest-preserved : goal.loop-rest-preserved
loop-rest-preserved c =
    rw (c.after-m.ensures, part_is 2 _) (texts_step _ _ _ c.loop-rest.invariant c.in-len2-up.len_at_least (rw c.part_of.ensures.names at c.put_one-to.ensures))
