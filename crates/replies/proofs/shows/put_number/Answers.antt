-- `replies::shows::put_number` meets its contract. Assumes nothing.
use Rattle.replies.specs.Show.{number_bytes}
use Rattle.replies.proofs.Putting.{both_put}
use Rattle.replies.proofs.shows.put_number.Goals.{then-negative, else-negative}
use Rattle.replies.proofs.shows.put_number.Goals as goal

pub returns : goal.returns
unfolding number_bytes
returns c =
    elim c.if-negative.branch [
      | then-negative w ↦ rw w.if-negative.true (both_put (rw (← w.piece-is, ← w.next-is) at w.put_run-next.ensures) c.put_decimal.ensures)
      | else-negative w ↦ rw w.if-negative.false (both_put (rw (← w.piece-is, ← w.next-is) at w.put-next.ensures) c.put_decimal.ensures)
    ]
