-- The invariant of `dialogue::next_line`. Assumes nothing.
use Rattle.std.proofs.Common.{◌≡◌, length}
use Rattle.dialogue.specs.Turn.{Fits}
use Rattle.dialogue.proofs.next_line.Given as goal

abbrev pub invariant-loop : goal.invariant-loop
invariant-loop g l =
    Fits l.r (length l.chunk) (length l.line) (length l.piece)
    × (length l.chunk ≡ length l.initial.chunk)
    × (length l.line ≡ length l.initial.line)
