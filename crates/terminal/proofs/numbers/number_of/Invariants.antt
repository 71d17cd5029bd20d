-- The invariant of `terminal::numbers::number_of`. Assumes nothing.
use Rattle.terminal.proofs.Counting.{Counted}
use Rattle.terminal.proofs.numbers.number_of.Given as goal

abbrev pub invariant-loop-byte : goal.invariant-loop-byte
invariant-loop-byte l = Counted l.word l.value l.byte-index
