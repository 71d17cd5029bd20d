-- The invariant and the measure of `terminal::utf8::decode`. Assumes nothing.
use Rattle.std.proofs.Common.{◌-◌, length}
use Rattle.terminal.proofs.Decoding.{Reading}
use Rattle.terminal.proofs.utf8.decode.Given as goal

abbrev pub invariant-loop-next : goal.invariant-loop-next
invariant-loop-next l = Reading l.bytes l.initial.out l.out l.i l.to

abbrev pub decreases-loop-next : goal.decreases-loop-next
decreases-loop-next l = length l.bytes - l.i
