-- `stores::copy_fours` meets its contract. Assumes nothing.
use Prim.Native.Nat.{◌-◌}
use mathlib.Core.Path.{◌∙◌}
use lib.ListN.{length}
use Rattle.laws.specs.Any.{last_part}
use Rattle.laws.specs.Store.{last_over}
use borrow.Author.Rules.{rules}
use Rattle.stores.proofs.copy_fours.Goals as goal

pub returns : goal.returns
returns c =
    let a = c.args in
    let xs = a.run.now in
    let last = length xs - 4 in
    c.copy_four-2.ensures ∙ rw (c.copy_four.ensures, last_part xs last 4 (search rules)) (last_over a.out.now a.at xs 4 last (search rules) (search rules))
