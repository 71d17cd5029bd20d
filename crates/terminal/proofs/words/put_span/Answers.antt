-- `terminal::words::put_span` meets its contract. Assumes nothing.
use Rattle.std.proofs.Common.{arith, rules}
use Rattle.terminal.proofs.Wording.{both_put}
use Rattle.terminal.proofs.words.put_span.Goals as goal

pub returns : goal.returns
returns c =
    let s = c.in-Ok-Ok.ensures in
    let l = c.in-Ok-Ok.ensures' in
    both_put _ _ _ _ (search rules) (omega (arith, s.0)) (omega (arith, l.0)) (rw s.1 at c.put.ensures) (rw l.1 at c.put-2.ensures)
