-- `quoting::escapes::put_marked` meets its contract. Assumes nothing.
use native.Mathlib.Omega.{arith}
use Rattle.laws.specs.Placed.{appended, both_placed}
use lib.ListN.{length-replicate}
use Rattle.quoting.specs.Emitted.{emitted, formed}
use Rattle.quoting.proofs.Forming.{edge_length, formed_parts}
use Rattle.quoting.proofs.escapes.put_marked.Goals as goal

pub put_edge-at-requires : goal.put_edge-at-requires
put_edge-at-requires c = omega (arith, edge_length c.args.shape.quoted)

pub put_content-spot-requires : goal.put_content-spot-requires
put_content-spot-requires c =
    let a = c.args in
    omega (arith, c.requires, formed_parts a.shape.batch a.shape.quoted a.arg.now, c.put_edge-at.ensures.ends)

pub put_end-to-requires : goal.put_end-to-requires
put_end-to-requires c =
    let a = c.args in
    let e = c.put_content-spot.ensures in
    omega (arith, c.requires, rw (← e.counts) at (formed_parts a.shape.batch a.shape.quoted a.arg.now), c.put_edge-at.ensures.ends, e.places.ends)

pub put_edge-requires : goal.put_edge-requires
put_edge-requires c =
    let a = c.args in
    let e = c.put_content-spot.ensures in
    omega (
      arith,
      c.requires,
      rw (← e.counts) at (formed_parts a.shape.batch a.shape.quoted a.arg.now),
      c.put_edge-at.ensures.ends,
      e.places.ends,
      rw length-replicate at c.put_end-to.ensures.ends,
    )

pub returns : goal.returns
unfolding formed emitted
returns c =
    let e = c.put_content-spot.ensures in
    appended (both_placed (both_placed c.put_edge-at.ensures (both_placed e.places (rw e.counts at c.put_end-to.ensures))) c.put_edge.ensures)
