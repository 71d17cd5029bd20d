-- `words::rows::row_of` meets its contract. Assumes nothing.
use mathlib.Core.Path.{◌∙◌, sym}
use Rattle.std.proofs.Common.{rules, tests}
use Rattle.std.proofs.lemmas.Iterator.{YieldsList-from_slice}
use Rattle.std.proofs.lemmas.Iterator.Search.{position_from_yields_List}
use Rattle.rules.specs.Choice.{equal}
use Rattle.words.specs.Line.{verb_in}
use Rattle.words.proofs.Lining.{row_found}
use Rattle.words.proofs.rows.row_of.Goals as goal

pub returns-clause-first : goal.returns-clause-first
returns-clause-first c =
    position_from_yields_List (λ row. equal (verb_in row) c.args.word.now) _ _ _ c.position.ensures.ran (YieldsList-from_slice c.args.rows.now cc) (λ x b q k. search (rules, tests))
    ∙ sym (row_found c.args.rows.now c.args.word.now)
