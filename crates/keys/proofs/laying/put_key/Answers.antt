-- `keys::laying::put_key` meets its contract. Assumes nothing.
use mathlib.Core.Path.{◌∙◌, sym}
use Rattle.laws.specs.Store.{sets_append}
use Rattle.keys.proofs.laying.put_key.Goals as goal

pub returns : goal.returns
returns c =
    let s = c.args in
    c.put_arguments.ensures ∙ rw c.copy_run.ensures (sym (sets_append s.out.now s.at s.lent.now.program.now _))
