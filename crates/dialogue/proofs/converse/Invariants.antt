-- The invariant of `dialogue::converse`. Assumes nothing.
use Rattle.std.proofs.Common.{length}
use Rattle.dialogue.specs.Turn.{Fits}
use Rattle.dialogue.proofs.converse.Given as goal

abbrev pub invariant-loop : goal.invariant-loop
invariant-loop g l = Fits l.t (length l.chunk) (length l.line) (length l.piece)
