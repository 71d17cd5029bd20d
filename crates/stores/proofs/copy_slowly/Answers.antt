-- `stores::copy_slowly` meets its contract. Assumes nothing.
use native.Mathlib.Nat.{add-zero}
use mathlib.Core.Path.{refl}
use Rattle.stores.proofs.Clip.{stored_one, all_stored}
use borrow.Author.Rules.{rules}
use Rattle.stores.proofs.copy_slowly.Goals as goal

pub loop-i-init : goal.loop-i-init
loop-i-init c = record { within = search rules; still = rw add-zero; same = refl }

pub loop-i-preserved : goal.loop-i-preserved
loop-i-preserved c = stored_one c.loop-i.invariant (search rules) (search rules) refl

pub returns : goal.returns
returns c = all_stored c.loop-i.invariant (search rules) c.requires
