-- `status::lay_digits` meets its contract. Assumes nothing.
use Rattle.status.proofs.Laying.{all_laid, none_laid, one_laid}
use native.Mathlib.Omega.{arith}
use Rattle.status.proofs.lay_digits.Goals as goal

pub loop-left-init : goal.loop-left-init
loop-left-init c = none_laid _ _ _ c.requires.0 c.ranges.number.fits c.requires.2

pub loop-left-preserved : goal.loop-left-preserved
loop-left-preserved c = rw c.glyph_of.ensures (one_laid (omega (arith, c.requires)) c.loop-left-test.true c.loop-left.invariant)

pub returns : goal.returns
returns c = rw c.glyph_of-2.ensures (all_laid c.loop-left-test.false c.loop-left.invariant)
