-- `words::shapes::take_pair` meets its contract. Assumes nothing.
use Rattle.words.proofs.Pairs.{ill_front, no_pair, pair_grew}
use Rattle.words.proofs.shapes.take_pair.Goals as goal

pub returns-then-word-colon : goal.returns-then-word-colon
returns-then-word-colon c = no_pair _ _ _ _ c.find-colon.ensures c.if-word-colon.true

pub returns-in_err-held : goal.returns-in_err-held
returns-in_err-held c =
    rw c.from_residual.ensures (ill_front _ _ _ _ c.find-colon.ensures c.if-word-colon.false c.in_err-held.ensures)

pub returns : goal.returns
returns c = pair_grew _ _ _ _ c.find-colon.ensures c.if-word-colon.false c.in_ok-held.ensures c.take_field-2.ensures
