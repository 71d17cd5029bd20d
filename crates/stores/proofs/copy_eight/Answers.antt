-- `stores::copy_eight` meets its contract. Assumes nothing.
use mathlib.Core.Path.{◌∙◌}
use Rattle.laws.specs.Store.{parts_stored}
use borrow.Author.Rules.{rules}
use Rattle.stores.proofs.copy_eight.Goals as goal

pub returns : goal.returns
returns c =
    let a = c.args in
    c.copy_four-2.ensures ∙ rw c.copy_four.ensures (parts_stored a.out.now a.to a.run.now a.at 4 4 (search rules))
