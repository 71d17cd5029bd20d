-- `replies::answers::put_answer` meets its contract. Assumes nothing.
use Rattle.laws.specs.Parts.{take_min}
use Rattle.replies.proofs.Putting.{both_put}
use Rattle.replies.specs.Show.{answer_bytes}
use Rattle.replies.proofs.answers.put_answer.Goals as goal

pub returns : goal.returns
unfolding answer_bytes
returns c =
    let word = rw c.bytes.ensures at c.put_run-said.ensures in
    let texts = rw (take_min _ _ c.args.spans.now c.min-named.ensures) at c.put_texts-told.ensures in
    let numbers = rw (take_min _ _ c.args.numbers.now c.min-shown.ensures) at c.put_numbers-end.ensures in
    both_put word (both_put c.put_if-one.ensures (both_put c.put_if-two.ensures (both_put texts (both_put numbers c.put.ensures))))
