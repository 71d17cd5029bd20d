-- `words::lines::word_end` meets its contract. Assumes nothing.
use Rattle.words.proofs.Lining.{word_ends}
use native.Mathlib.Omega.{arith}
use Rattle.words.proofs.lines.word_end.Goals as goal

pub overflow_add-result : goal.overflow_add-result
overflow_add-result c = omega (arith, word_ends c.args.line.now c.args.at _ c.requires c.find.ensures, c.well_formed)

pub returns : goal.returns
returns c = word_ends _ _ _ c.requires c.find.ensures
