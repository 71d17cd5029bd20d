-- `terminal::numbers::number_of` meets its contract. Assumes nothing.
use Rattle.std.proofs.Common.{arith}
use Rattle.terminal.proofs.Counting.{one_counted}
use Rattle.terminal.proofs.numbers.number_of.Goals as goal

pub loop-byte-preserved : goal.loop-byte-preserved
loop-byte-preserved c = one_counted c.loop-byte.invariant c.loop-byte-test.true c.if-not-is_ascii_digit.ensures.cases (omega arith) (omega arith)
