-- `scans::many_have_either` meets its contract. Assumes nothing.
use Prim.Native.Nat.{◌+◌, ◌-◌, ◌*◌, ◌≤◌}
use mathlib.Core.Path.{◌∙◌, ◌≡◌, refl, sym}
use Rattle.laws.specs.Any.{back, last_part, part_none, part_one}
use Rattle.laws.specs.Scan.{is_either}
use lib.ListN.{length}
use native.Mathlib.Omega.{arith}
use borrow.Author.Rules.{rules}
use Rattle.scans.proofs.many_have_either.Goals as goal

pub loop-k-init : goal.loop-k-init
loop-k-init c = refl

pub returns-then-eight_have_either : goal.returns-then-eight_have_either
returns-then-eight_have_either c = let s = c.args in part_one (is_either s.a s.b) s.units.now (8 * c.loop-k.k) 8 (sym c.eight_have_either.ensures ∙ c.if-eight_have_either.true)

pub loop-k-preserved : goal.loop-k-preserved
loop-k-preserved c =
    let s = c.args in
    let k = c.loop-k.k in
    let next : 8 * (k + 1) ≡ 8 * k + 8 = omega arith in
    rw next (part_none (is_either s.a s.b) s.units.now (8 * k) 8 c.loop-k.invariant (sym c.eight_have_either.ensures ∙ c.if-eight_have_either.false))

pub returns : goal.returns
returns c =
    let s = c.args in
    let xs = s.units.now in
    let i = 8 * c.loop-k.k in
    let last = length xs - 8 in
    let e : last + 8 ≡ length xs = search rules in
    let passed : last ≤ i = omega (arith, c.loop-k-test.false) in
    c.eight_have_either-2.ensures ∙ rw (last_part xs last 8 e) (back (is_either s.a s.b) xs i last c.loop-k.invariant passed)
