-- The invariant and the measure of `replies::answers::put_texts`. Assumes nothing.
use lib.ListN.{length}
use Rattle.replies.specs.Show.{texts_bytes, texts_in}
use Rattle.replies.proofs.Putting.{Still}
use Rattle.replies.proofs.answers.put_texts.Given as goal

abbrev pub invariant-loop-rest : goal.invariant-loop-rest
invariant-loop-rest l = Still (texts_bytes l.initial.m (texts_in l.out l.spans)) (texts_bytes l.m (texts_in l.out l.rest)) l.initial.to l.to l.initial.piece l.piece

abbrev pub decreases-loop-rest : goal.decreases-loop-rest
decreases-loop-rest l = length l.rest
