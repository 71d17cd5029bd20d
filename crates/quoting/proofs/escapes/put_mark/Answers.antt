-- `quoting::escapes::put_mark` meets its contract. Assumes nothing.
use Prim.Native.Nat.{ℕ, ◌+◌, ◌<◌, ◌^◌}
use native.Mathlib.Omega.{arith}
use borrow.Author.Tests.{eq-eqb, ne_eqb}
use mathlib.Core.Path.{◌≡◌, refl}
use mathlib.Core.Bool.{Bool}
use lib.ListN.{length, length-replicate}
use Rattle.laws.specs.Placed.{both_placed, two_placed}
use Rattle.quoting.specs.Emitted.{mark_for}
use Rattle.quoting.proofs.Emitting.{mark_length}
use Rattle.quoting.proofs.escapes.put_mark.Goals as goal

-- a quote mark has room
room : (batch : Bool) (at unit k : ℕ) → unit ≡ 34 → at + length (mark_for batch unit k) < 2 ^ 64 → at + (k + 2) < 2 ^ 64
room batch at unit k e h = omega (arith, h, rw (eq-eqb _ 34 e) at (mark_length batch unit k))

pub overflow_add-result-else-unit-eq-QUOTE : goal.overflow_add-result-else-unit-eq-QUOTE
overflow_add-result-else-unit-eq-QUOTE c = let a = c.args in omega (arith, c.requires, rw (ne_eqb _ 34 c.if-unit-eq-QUOTE.false) at (mark_length a.batch a.unit a.k))

pub returns-else-unit-eq-QUOTE : goal.returns-else-unit-eq-QUOTE
unfolding mark_for
returns-else-unit-eq-QUOTE c = rw (ne_eqb _ 34 c.if-unit-eq-QUOTE.false) (record { ends = refl; stores = c.copy_run.ensures })

pub put_slashes-to-requires : goal.put_slashes-to-requires
put_slashes-to-requires c = let a = c.args in omega (arith, room a.batch a.at a.unit a.k c.if-unit-eq-QUOTE.true c.requires)

pub overflow_add-to : goal.overflow_add-to
overflow_add-to c =
    let a = c.args in
    omega (arith, room a.batch a.at a.unit a.k c.if-unit-eq-QUOTE.true c.requires, rw length-replicate at c.put_slashes-to.ensures.ends)

pub overflow_add-result : goal.overflow_add-result
overflow_add-result c =
    let a = c.args in
    omega (arith, room a.batch a.at a.unit a.k c.if-unit-eq-QUOTE.true c.requires, rw length-replicate at c.put_slashes-to.ensures.ends)

pub returns-then-unit-eq-QUOTE : goal.returns-then-unit-eq-QUOTE
unfolding mark_for
returns-then-unit-eq-QUOTE c =
    rw (eq-eqb _ 34 c.if-unit-eq-QUOTE.true, ← c.before_quote.ensures)
    (both_placed c.put_slashes-to.ensures (two_placed _ 34 c.put_slashes-to.result c.put.ensures c.put-then-unit-eq-QUOTE.ensures))
