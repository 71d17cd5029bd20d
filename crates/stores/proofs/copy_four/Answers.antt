-- `stores::copy_four` meets its contract. Assumes nothing.
use Rattle.laws.specs.Store.{four_stored}
use native.Mathlib.Omega.{arith}
use lib.ListN.{length-set}
use Rattle.stores.proofs.copy_four.Goals as goal

pub bounds-out-to-2 : goal.bounds-out-to-2
bounds-out-to-2 c = simp length-set (omega (arith, c.requires))

pub bounds-out-to-3 : goal.bounds-out-to-3
bounds-out-to-3 c = simp length-set (omega (arith, c.requires))

pub bounds-out-to-4 : goal.bounds-out-to-4
bounds-out-to-4 c = simp length-set (omega (arith, c.requires))

pub returns : goal.returns
returns c = let a = c.args in four_stored a.out.now a.to a.run.now a.at c.requires.1
