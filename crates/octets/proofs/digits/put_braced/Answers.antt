-- `octets::digits::put_braced` meets its contract. Assumes nothing.
use native.Mathlib.Omega.{arith}
use Rattle.laws.specs.Placed.{both_placed}
use Rattle.laws.specs.Digits.{digits_short}
use Rattle.octets.specs.Braced.{braced}
use Rattle.octets.proofs.digits.put_braced.Goals as goal

pub put_one-requires : goal.put_one-requires
put_one-requires c =
    omega (arith, (c.put_digits-end.ensures 3 (omega arith)).ends, digits_short 16 3 c.from.result)

pub returns : goal.returns
unfolding braced
returns c =
    rw (← c.from.ensures) (both_placed c.put_one-inside.ensures (both_placed (c.put_digits-end.ensures 3 (omega arith)) c.put_one.ensures))
