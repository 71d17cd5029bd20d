-- `words::rows::is_verb` meets its contract. Assumes nothing.
use Rattle.words.proofs.Lining.{verb_is}
use Rattle.laws.specs.Scan.{leading_in}
use lib.Seq.{length-take-le}
use mathlib.Core.Path.{sym}
use Rattle.words.proofs.rows.is_verb.Goals as goal

pub slice_bounds-same-end : goal.slice_bounds-same-end
slice_bounds-same-end c = sym (length-take-le _ _ (rw c.find.ensures (leading_in _ _)))

pub returns : goal.returns
returns c =
    rw (verb_is c.args.row.now, ← c.find.ensures) c.same.ensures
