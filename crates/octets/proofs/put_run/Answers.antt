-- `octets::put_run` meets its contract. Assumes nothing.
use Prim.Native.Nat.{◌+◌}
use native.Mathlib.Nat.{add-zero}
use native.Mathlib.Omega.{arith}
use mathlib.Core.Path.{◌∙◌, ◌≡◌, refl, sym}
use mathlib.Core.List.{[]}
use lib.ListN.{drop, drop_of_length-le}
use Rattle.laws.specs.Store.{copy_turn}
use Rattle.octets.proofs.put_run.Goals as goal

pub loop-i-init : goal.loop-i-init
loop-i-init c = (refl, rw add-zero)

pub loop-i-preserved : goal.loop-i-preserved
loop-i-preserved c =
    let l = c.loop-i in
    let at = c.args.at in
    let turn = copy_turn l.out (at + l.i) l.i c.args.run.now c.loop-i-test.true in
    let next : at + (l.i + 1) ≡ at + l.i + 1 = omega arith in
    (c.put.auto.out ∙ l.invariant.0, rw (next, c.put.ensures) (sym turn ∙ l.invariant.1))

pub shape_of-out : goal.shape_of-out
shape_of-out c = c.loop-i.invariant.0

pub returns : goal.returns
returns c =
    let t = c.args.run.now in
    let l = c.loop-i in
    let e : drop l.i t ≡ [] = drop_of_length-le t {i = l.i} c.loop-i-test.false in
    record { ends = refl; stores = rw e at l.invariant.1 }
