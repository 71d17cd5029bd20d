-- The invariant and the measure of `words::lines::take_words`. Assumes nothing.
use Rattle.words.proofs.Lining.{Going}
use lib.ListN.{length}
use Prim.Native.Nat.{◌+◌, ◌-◌}
use Rattle.words.specs.Line.{Roomy}
use Rattle.words.proofs.lines.take_words.Given as goal

abbrev pub invariant-loop-at : goal.invariant-loop-at
invariant-loop-at l = Roomy (length l.line) l.start (length l.initial.text) (length l.initial.numbers) × Going l.letters l.line l.start l.initial.text l.initial.numbers l.text l.numbers l.at l.i l.held

abbrev pub decreases-loop-at : goal.decreases-loop-at
decreases-loop-at l = length l.line + 1 - l.at
