-- `scans::find_any` meets its contract. Assumes nothing.
use native.Mathlib.Omega.{arith}
use Rattle.rules.specs.Choice.{flip}
use Rattle.laws.specs.Scan.{is_one_of, leading_front}
use mathlib.Core.Path.{sym}
use lib.Seq.{length-take-le}
use Prim.Native.Nat.{◌≤◌}
use lib.ListN.{length}
use borrow.Author.Rules.{rules}
use Rattle.scans.proofs.find_any.Goals as goal

pub slice_bounds-find_slowly-end : goal.slice_bounds-find_slowly-end
slice_bounds-find_slowly-end c = let s = c.args in let h : 8 ≤ length s.units.now = search rules in sym (length-take-le 8 s.units.now h)

pub returns-then-first-front : goal.returns-then-first-front
returns-then-first-front c = let s = c.args in omega (arith, c.find_slowly-first.ensures, leading_front (λ x. flip (is_one_of s.a s.b s.c s.d x)) 8 s.units.now)

pub find_by_eights-requires : goal.find_by_eights-requires
find_by_eights-requires c = let s = c.args in omega (arith, c.find_slowly-first.ensures, leading_front (λ x. flip (is_one_of s.a s.b s.c s.d x)) 8 s.units.now)
