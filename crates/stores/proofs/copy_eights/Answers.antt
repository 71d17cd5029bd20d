-- `stores::copy_eights` meets its contract. Assumes nothing.
use Prim.Native.Nat.{◌+◌, ◌-◌, ◌*◌, ◌≤◌}
use mathlib.Core.Path.{◌∙◌, ◌≡◌, refl}
use lib.ListN.{length}
use native.Mathlib.Omega.{arith}
use Rattle.laws.specs.Any.{last_part}
use Rattle.laws.specs.Store.{last_over, part_more}
use borrow.Author.Rules.{rules}
use Rattle.stores.proofs.copy_eights.Goals as goal

pub loop-k-init : goal.loop-k-init
loop-k-init c = (refl, refl)

pub loop-k-preserved : goal.loop-k-preserved
loop-k-preserved c =
    let a = c.args in
    let l = c.loop-k in
    let next : 8 * (l.k + 1) ≡ 8 * l.k + 8 = omega arith in
    (rw next (c.copy_eight.ensures ∙ rw l.invariant.0 (part_more a.out.now a.at a.run.now (8 * l.k) 8 (search rules))), search rules)

pub returns : goal.returns
returns c =
    let a = c.args in
    let xs = a.run.now in
    let i = 8 * c.loop-k.k in
    let last = length xs - 8 in
    let passed : last ≤ i = omega (arith, c.loop-k-test.false) in
    c.copy_eight-2.ensures ∙ rw (c.loop-k.invariant.0, last_part xs last 8 (search rules)) (last_over a.out.now a.at xs i last passed (search rules))
