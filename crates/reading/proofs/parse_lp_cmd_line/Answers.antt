-- `reading::parse_lp_cmd_line` meets its contract. Assumes nothing.
use borrow.Author.Rules.{rules}
use native.Mathlib.Omega.{arith}
use Prim.Native.Nat.{◌≤◌, ℕ}
use mathlib.Core.Path.{◌∙◌, ◌≡◌, refl, sym}
use mathlib.Core.List.{List}
use lib.Dec.{eqb}
use lib.ListN.{length, take}
use Rattle.rules.specs.Choice.{pick}
use Rattle.rules.specs.Unit.{is_nul}
use Rattle.rules.specs.Reading.{read_limit, units_read}
use Rattle.laws.specs.Scan.{before}
use Rattle.reading.specs.House.{Short}
use Rattle.reading.proofs.Outcome.{behind_limit, line_length, refuses, short, sure_housed, too_long, units_are}
use Rattle.reading.proofs.parse_lp_cmd_line.Goals as goal

-- the executable name, the lent units, how many of them the line has, and how many units the limit counts
module _ (name lent : List ℕ) {size units : ℕ} (found : size ≡ before is_nul lent) (read : units ≡ pick (eqb size 0) (length name) size) where
  counted : length (units_read name lent) ≡ units
  counted = units_are name lent size found ∙ sym read

  -- where they are not too many, refusal 2 is not given
  fits : units ≤ 32767 → length (units_read name lent) ≤ read_limit
  unfolding read_limit
  fits h = omega (arith, counted)

  -- the line has as many units as the scan finds
  sized : length (take size lent) ≡ size
  sized = line_length name lent size found

  -- where they are not too many, it is short, and so is the executable name where the line is empty
  short_line : units ≤ 32767 → Short (take size lent) name
  short_line h =
      let l = sized in
      let s = short size (length name) (rw read at h) in
      (omega (arith, s.0), λ z. let t = s.1 (sym l ∙ z) in omega arith)

pub returns-then-counted-gt-READ_LIMIT : goal.returns-then-counted-gt-READ_LIMIT
unfolding read_limit
returns-then-counted-gt-READ_LIMIT c =
    let a = c.args in
    refuses (too_long _ _ _ _ (omega (arith, counted a.exe_name.now a.units.now c.find_nul-n.ensures c.units_read-counted.ensures))) refl refl refl

pub surely_fits-requires : goal.surely_fits-requires
unfolding read_limit
surely_fits-requires c = search rules

pub slice_bounds-line-end : goal.slice_bounds-line-end
slice_bounds-line-end c = let a = c.args in sym (sized a.exe_name.now a.units.now c.find_nul-n.ensures c.units_read-counted.ensures)

pub read_at_once-requires : goal.read_at_once-requires
read_at_once-requires c =
    let name = c.args.exe_name.now in
    let lent = c.args.units.now in
    let n = c.find_nul-n in
    let u = c.units_read-counted.ensures in
    (short_line name lent n.ensures u c.if-counted-gt-READ_LIMIT.false, sure_housed name lent n.result n.ensures _ _ (rw (counted name lent n.ensures u) (sym c.surely_fits.ensures ∙ c.if-surely_fits.true)))

pub returns-then-surely_fits : goal.returns-then-surely_fits
returns-then-surely_fits c =
    let name = c.args.exe_name.now in
    let lent = c.args.units.now in
    let n = c.find_nul-n in
    rw (behind_limit name lent n.result n.ensures _ _ (fits name lent n.ensures c.units_read-counted.ensures c.if-counted-gt-READ_LIMIT.false)) at c.read_at_once.ensures

pub read_measured-requires : goal.read_measured-requires
read_measured-requires c =
    let a = c.args in
    short_line a.exe_name.now a.units.now c.find_nul-n.ensures c.units_read-counted.ensures c.if-counted-gt-READ_LIMIT.false

pub returns-else-surely_fits : goal.returns-else-surely_fits
returns-else-surely_fits c =
    let name = c.args.exe_name.now in
    let lent = c.args.units.now in
    let n = c.find_nul-n in
    rw (behind_limit name lent n.result n.ensures _ _ (fits name lent n.ensures c.units_read-counted.ensures c.if-counted-gt-READ_LIMIT.false)) at c.read_measured.ensures
