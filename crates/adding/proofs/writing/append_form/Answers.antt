-- `adding::writing::append_form` meets its contract. Assumes nothing.
use Rattle.adding.specs.Added.{rule_of}
use Rattle.adding.proofs.writing.append_form.Goals as goal

pub returns-then-style : goal.returns-then-style
unfolding rule_of
returns-then-style c = rw c.if-style.true c.append_bat_arg.ensures

pub returns-else-style : goal.returns-else-style
unfolding rule_of
returns-else-style c = rw c.if-style.false c.append_arg.ensures
