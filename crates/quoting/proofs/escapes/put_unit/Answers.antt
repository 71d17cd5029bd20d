-- `quoting::escapes::put_unit` meets its contract. Assumes nothing.
use native.Mathlib.Omega.{arith}
use mathlib.Core.Path.{◌∙◌, sym}
use Rattle.laws.specs.Placed.{unit_placed}
use Rattle.laws.specs.Scan.{trailing_from}
use Rattle.quoting.proofs.Emitting.{kept_stretch, mark_behind, mark_stretch}
use Rattle.quoting.proofs.escapes.put_unit.Goals as goal

pub put_mark-to-requires : goal.put_mark-to-requires
put_mark-to-requires c =
    let a = c.args in
    let e = sym c.is_mark.ensures ∙ c.if-is_mark.true in
    rw (mark_stretch a.batch a.spot.k a.unit e) at c.requires.0

pub returns-then-is_mark : goal.returns-then-is_mark
returns-then-is_mark c =
    let a = c.args in
    let e = sym c.is_mark.ensures ∙ c.if-is_mark.true in
    record { places = rw (mark_stretch a.batch a.spot.k a.unit e) c.put_mark-to.ensures; counts = mark_behind a.batch a.spot.k a.unit e }

pub overflow_add-result : goal.overflow_add-result
overflow_add-result c =
    let a = c.args in
    let e = sym c.is_mark.ensures ∙ c.if-is_mark.false in
    omega (arith, rw (kept_stretch a.batch a.spot.k a.unit e) at c.requires.0)

pub returns-else-is_mark : goal.returns-else-is_mark
unfolding trailing_from
returns-else-is_mark c =
    let a = c.args in
    let e = sym c.is_mark.ensures ∙ c.if-is_mark.false in
    record { places = rw (kept_stretch a.batch a.spot.k a.unit e) (unit_placed a.unit a.spot.to c.put.ensures); counts = c.count_on.ensures }
