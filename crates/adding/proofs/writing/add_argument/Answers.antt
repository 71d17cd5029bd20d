-- `adding::writing::add_argument` meets its contract. Assumes nothing.
use Rattle.rules.specs.Building.{written}
use Rattle.rules.specs.Record.{argument_of}
use Rattle.rules.specs.Unit.{space}
use Rattle.adding.specs.Limits.{count_cap}
use Rattle.adding.specs.Added.{rule_of, piece}
use Rattle.adding.proofs.Adding.{nothing_added, unit_and_run}
use Rattle.adding.proofs.writing.add_argument.Goals as goal

pub returns-then-units-ge-COUNT_CAP : goal.returns-then-units-ge-COUNT_CAP
unfolding count_cap
returns-then-units-ge-COUNT_CAP c =
    let a = c.args in
    nothing_added (piece a.style (argument_of a.text.now a.arg)) a.units a.out.now c.if-units-ge-COUNT_CAP.true

pub append_form-n-requires : goal.append_form-n-requires
append_form-n-requires c = c.part_of-content.ensures.short

pub returns : goal.returns
unfolding count_cap
returns c =
    let a = c.args in
    let argument = argument_of a.text.now a.arg in
    unit_and_run a.units c.if-units-ge-COUNT_CAP.false space (written (rule_of a.style.batch) a.style.force argument) a.out.now c.put.new.out c.append_form-n.new.out c.min-from.result c.append_form-n.result c.count_on.result
    c.put.ensures
    c.min-from.ensures
    (rw (← c.part_of-content.ensures.names) c.append_form-n.ensures)
    c.count_on.ensures
