-- `octets::widen` meets its contract. Assumes nothing.
use Rattle.std.proofs.Common.{◌≡◌, ◌+◌, refl, sym, arith, rules}
use Rattle.stores.proofs.Clip.{stored_one, all_stored}
use Rattle.octets.proofs.widen.Goals as goal

pub loop-i-init : goal.loop-i-init
loop-i-init c = record { within = search rules; still = refl; same = refl }

pub loop-i-preserved : goal.loop-i-preserved
loop-i-preserved c =
    let l = c.loop-i in
    let e : 0 + l.i ≡ l.i = omega arith in
    rw e at (stored_one l.invariant c.loop-i-test.true (omega arith) (sym c.from.ensures))

pub returns : goal.returns
returns c = (c.min-n.ensures, all_stored c.loop-i.invariant c.loop-i-test.false (omega arith))
