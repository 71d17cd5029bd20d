-- The invariant of `forms::texts::take_units`. Assumes nothing.
use Rattle.forms.proofs.Putting.{Putting}
use Rattle.forms.proofs.texts.take_units.Given as goal

abbrev pub invariant-loop-byte : goal.invariant-loop-byte
invariant-loop-byte l = Putting l.colons l.word l.to l.initial.text l.text l.spot l.n l.byte-index
