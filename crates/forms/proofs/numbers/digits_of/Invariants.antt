-- The invariant of `forms::numbers::digits_of`. Assumes nothing.
use Rattle.forms.proofs.Scanning.{Counting}
use Rattle.forms.proofs.numbers.digits_of.Given as goal

abbrev pub invariant-loop-byte : goal.invariant-loop-byte
invariant-loop-byte l = Counting l.most l.word l.number l.byte-index
