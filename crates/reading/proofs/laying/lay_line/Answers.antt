-- `reading::laying::lay_line` meets its contract. Assumes nothing.
use borrow.Author.Tests.{tests}
use borrow.Author.Rules.{rules}
use Rattle.reading.proofs.Outcome.{line_laid, name_laid}
use Rattle.reading.proofs.laying.lay_line.Goals as goal

pub returns-then-is_empty : goal.returns-then-is_empty
returns-then-is_empty c = name_laid _ _ (search (rules, tests)) c.copy_run.ensures c.put_span.ensures

pub returns-else-is_empty : goal.returns-else-is_empty
returns-else-is_empty c = line_laid _ _ (search (rules, tests)) c.lay.ensures
