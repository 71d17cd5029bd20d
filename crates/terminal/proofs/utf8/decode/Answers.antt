-- `terminal::utf8::decode` meets its contract. Assumes nothing.
use Rattle.std.proofs.Common.{arith, sym, ◌∙◌}
use Rattle.terminal.proofs.Decoding.{next_fine, next_in, none_read, one_read, over}
use Rattle.terminal.proofs.utf8.decode.Goals as goal

pub loop-next-init : goal.loop-next-init
loop-next-init c = none_read

pub put_units-to-requires : goal.put_units-to-requires
put_units-to-requires c =
    let e = sym c.scalar_of.ensures ∙ c.in-Some.is in
    let f = next_fine c.args.bytes.now c.loop-next.i e in
    (f.small, omega (arith, c.loop-next.invariant.few, f.some, next_in c.args.bytes.now c.loop-next.i c.loop-next.invariant.within e))

pub overflow_add-i : goal.overflow_add-i
overflow_add-i c = omega (arith, next_in c.args.bytes.now c.loop-next.i c.loop-next.invariant.within (sym c.scalar_of.ensures ∙ c.in-Some.is))

pub loop-next-smaller : goal.loop-next-smaller
loop-next-smaller c =
    let e = sym c.scalar_of.ensures ∙ c.in-Some.is in
    omega (arith, (next_fine c.args.bytes.now c.loop-next.i e).some, next_in c.args.bytes.now c.loop-next.i c.loop-next.invariant.within e)

pub loop-next-preserved : goal.loop-next-preserved
loop-next-preserved c = one_read c.loop-next.invariant (sym c.scalar_of.ensures ∙ c.in-Some.is) c.put_units-to.ensures

pub returns : goal.returns
returns c = over c.loop-next.invariant (sym c.scalar_of.ensures ∙ c.in_default.is)
