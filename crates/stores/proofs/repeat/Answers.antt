-- `stores::repeat` meets its contract. Assumes nothing.
use native.Mathlib.Nat.{add-zero}
use mathlib.Core.Path.{refl}
use lib.ListN.{length-replicate, get_or-replicate}
use Rattle.stores.proofs.Clip.{stored_one, all_stored}
use borrow.Author.Rules.{rules}
use Rattle.stores.proofs.repeat.Goals as goal

pub loop-i-init : goal.loop-i-init
loop-i-init c = record { within = search rules; still = rw add-zero; same = refl }

pub loop-i-preserved : goal.loop-i-preserved
loop-i-preserved c =
    let a = c.args in
    stored_one c.loop-i.invariant (search rules) (rw length-replicate (search rules)) (get_or-replicate a.count c.loop-i.i a.unit 0 (search rules))

pub returns : goal.returns
returns c = all_stored c.loop-i.invariant (search rules) (rw length-replicate c.fitting-n.ensures)
