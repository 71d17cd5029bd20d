-- `comparing::eights_same` meets its contract. Assumes nothing.
use Prim.Native.Nat.{◌+◌, ◌-◌, ◌*◌, ◌≤◌}
use lib.ListN.{length}
use native.Mathlib.Omega.{arith}
use mathlib.Core.Path.{◌∙◌, ◌≡◌, refl, sym}
use Rattle.laws.specs.Equal.{last_decides, part_agrees, part_differs}
use borrow.Author.Rules.{rules}
use Rattle.comparing.proofs.eights_same.Goals as goal

pub loop-k-init : goal.loop-k-init
loop-k-init c = refl

pub loop-k-preserved : goal.loop-k-preserved
loop-k-preserved c =
    let s = c.args in
    let k = c.loop-k.k in
    let next : 8 * (k + 1) ≡ 8 * k + 8 = omega arith in
    rw next (part_agrees s.a.now s.b.now (8 * k) 8 c.loop-k.invariant (sym c.eight_same.ensures ∙ c.if-not-eight_same.false))

pub returns-then-not-eight_same : goal.returns-then-not-eight_same
returns-then-not-eight_same c =
    let s = c.args in
    sym (part_differs s.a.now s.b.now (8 * c.loop-k.k) 8 (sym c.eight_same.ensures ∙ c.if-not-eight_same.true))

pub returns : goal.returns
returns c =
    let a = c.args.a.now in
    let b = c.args.b.now in
    let i = 8 * c.loop-k.k in
    let last = length a - 8 in
    let e : last + 8 ≡ length a = search rules in
    let passed : last ≤ i = omega (arith, c.loop-k-test.false) in
    c.eight_same-2.ensures ∙ last_decides a b i last 8 c.requires.0 e passed c.loop-k.invariant
