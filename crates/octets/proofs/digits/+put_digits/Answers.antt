-- `octets::digits::put_digits` meets its contract. Assumes nothing.
use Rattle.std.proofs.Common.{◌/◌, ◌<◌, ◌^◌, suc, arith}
use Rattle.laws.specs.Digits.{digits_short, fewer, last_placed, one_digit, wide}
use Rattle.octets.proofs.digits.+put_digits.Goals as goal

pub returns-then-number-base : goal.returns-then-number-base
returns-then-number-base t c = λ fuel l. rw (one_digit _ fuel _ c.if-number-base.true, ← c.glyph.ensures) c.put_one.ensures

pub put_one-requires-2 : goal.put_one-requires-2
put_one-requires-2 t c =
    let a = c.args in
    let p = c.requires in
    let l : a.number / a.base < a.base ^ suc 62 = fewer a.base 62 a.number p.0 (wide a.base a.number p.0 c.ranges.number.fits) in
    omega (arith, (c.put_digits-next.ensures 62 l).ends, digits_short a.base 62 (a.number / a.base), p.2)

pub returns : goal.returns
returns t c =
    last_placed _ _ c.requires.0 c.if-number-base.false c.put_digits-next.ensures (rw c.glyph-2.ensures at c.put_one-2.ensures)
