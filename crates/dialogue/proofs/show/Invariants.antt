-- The invariant of `dialogue::show`. Assumes nothing.
use Rattle.std.proofs.Common.{◌<◌, length}
use Rattle.dialogue.proofs.show.Given as goal

abbrev pub invariant-loop : goal.invariant-loop
invariant-loop g l = l.at < length l.piece
