-- `comparing::parts_same` meets its contract. Assumes nothing.
use native.Mathlib.Omega.{arith}
use Prim.Native.Nat.{◌+◌, ◌-◌, zero-le}
use mathlib.Core.Path.{◌∙◌, ◌≡◌, refl, sym}
use Rattle.laws.specs.Equal.{all_agree, part_agrees, part_differs}
use borrow.Author.Rules.{rules}
use Rattle.comparing.proofs.parts_same.Goals as goal

pub loop-i-init : goal.loop-i-init
loop-i-init c = (zero-le, refl)

pub loop-i-preserved : goal.loop-i-preserved
loop-i-preserved c =
    let s = c.args in
    let l = c.loop-i in
    let m = c.min-end.result - l.i in
    let t = (sym c.all_same.ensures ∙ c.if-not-all_same.false) in
    let e : l.i + m ≡ c.min-end.result = omega arith in
    (search rules, rw e at (part_agrees s.a.now s.b.now l.i m l.invariant.1 t))

pub returns-then-not-all_same : goal.returns-then-not-all_same
returns-then-not-all_same c =
    let s = c.args in
    let l = c.loop-i in
    let m = c.min-end.result - l.i in
    let t = (sym c.all_same.ensures ∙ c.if-not-all_same.true) in
    sym (part_differs s.a.now s.b.now l.i m t)

pub returns : goal.returns
returns c =
    let s = c.args in
    sym (all_agree s.a.now s.b.now c.loop-i.i c.requires c.loop-i-test.false c.loop-i.invariant.1)
