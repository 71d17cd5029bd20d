-- `status::status_text` meets its contract. Assumes nothing.
use Rattle.status.proofs.Fitting.{decimal_text, hexadecimal_text, of_status}
use Rattle.rules.specs.Unit.{units}
use Rattle.status.proofs.status_text.Goals as goal

pub returns-then-status-lt-FIRST_HEXADECIMAL : goal.returns-then-status-lt-FIRST_HEXADECIMAL
unfolding units
returns-then-status-lt-FIRST_HEXADECIMAL c =
    let tested = c.if-status-lt-FIRST_HEXADECIMAL in
    let laid = c.lay_digits-at in
    of_status c.args.status
    (decimal_text c.args.status laid.result _ laid.new.places tested.true laid.ensures)
    c.answer.ensures

pub returns-else-status-lt-FIRST_HEXADECIMAL : goal.returns-else-status-lt-FIRST_HEXADECIMAL
unfolding units
returns-else-status-lt-FIRST_HEXADECIMAL c =
    let tested = c.if-status-lt-FIRST_HEXADECIMAL in
    let laid = c.lay_digits-at-else-status-lt-FIRST_HEXADECIMAL in
    of_status c.args.status
    (hexadecimal_text c.args.status laid.result _ laid.new.places tested.false c.ranges.status.fits laid.ensures)
    c.answer-else-status-lt-FIRST_HEXADECIMAL.ensures
