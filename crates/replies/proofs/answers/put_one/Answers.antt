-- `replies::answers::put_one` meets its contract. Assumes nothing.
use Rattle.replies.proofs.Putting.{both_put}
use Rattle.replies.proofs.answers.put_one.Goals as goal

pub returns : goal.returns
returns c =
    both_put (rw c.separator.ensures at c.put-next.ensures) (rw c.colons.ensures at c.put_text.ensures)
