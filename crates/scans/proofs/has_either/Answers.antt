-- `scans::has_either` meets its contract. Assumes nothing.
use Rattle.laws.specs.Any.{two_parts}
use Rattle.laws.specs.Scan.{is_either}
use Prim.Native.Nat.{◌-◌}
use lib.ListN.{length}
use borrow.Author.Rules.{rules}
use Rattle.scans.proofs.has_either.Goals as goal

pub returns-then-units-ge4 : goal.returns-then-units-ge4
returns-then-units-ge4 c =
    let s = c.args in
    let xs = s.units.now in
    rw (c.four_have_either.ensures, c.four_have_either-then-units-ge4.ensures) (two_parts (is_either s.a s.b) xs 4 (length xs - 4) 4 (search rules) (search rules))
