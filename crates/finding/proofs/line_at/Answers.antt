-- `finding::line_at` meets its contract. Assumes nothing.
use Rattle.finding.proofs.line_at.Goals as goal

pub returns : goal.returns
returns c =
    rw (c.min-units.ensures, c.min.ensures, c.min-key.ensures, c.word_at-3.ensures, c.word_at-2.ensures, c.word_at.ensures)
