-- `entries::marks::measure_entry` meets its contract. Assumes nothing.
use Prim.Native.Nat.{◌+◌, ◌≤◌}
use native.Mathlib.Omega.{arith}
use mathlib.Core.Path.{◌≡◌, ap, ◌∙◌}
use lib.ListN.{length, drop}
use Rattle.rules.specs.Unit.{is_nul}
use Rattle.laws.specs.Scan.{before, is_either}
use Rattle.laws.specs.Store.{part_is}
use Rattle.entries.proofs.Marking.{Begun, mark_inside, mark_cut, mark_nul, end_inside, value_cut, good_met}
use Rattle.entries.proofs.marks.measure_entry.Goals.{After-find_near, After-find_nul-value}
use Rattle.entries.proofs.marks.measure_entry.Goals.{then-key-rest-via-then-key-rest, then-key-rest-via-else-key-rest+then-rest-key-eq-NUL}
use Rattle.entries.proofs.marks.measure_entry.Goals as goal

-- the rest, and what the first scan found in it
begun : (c : After-find_near) → Begun c.args.rest.now c.find_near.result
begun c =
    record { some = c.requires.0; first = c.requires.1; scanned = c.find_near.ensures ∙ ap (before (is_either 0 61)) (part_is 1 c.args.rest.now) }

-- the mark, or the end, is in the rest
inside : (c : After-find_near) → 1 + c.find_near.result ≤ length c.args.rest.now
inside c = mark_inside _ _ (begun c)

-- what the second scan found behind the mark
found : (c : After-find_nul-value) → c.find_nul-value.result ≡ before is_nul (drop (1 + c.find_near.result + 1) c.args.rest.now)
found c =
    c.find_nul-value.ensures ∙ ap (before is_nul) (part_is (1 + c.find_near.result + 1) c.args.rest.now)

pub overflow_add-key : goal.overflow_add-key
overflow_add-key c = omega (arith, inside c)

pub returns-then-key-rest : goal.returns-then-key-rest
returns-then-key-rest c =
    let b = begun (goal.at.returns-then-key-rest c).After-find_near in
    elim c.then-key-rest.branch [
      | then-key-rest-via-then-key-rest w ↦ mark_cut _ _ b w.if-key-rest.true
      | then-key-rest-via-else-key-rest+then-rest-key-eq-NUL w ↦ mark_nul _ _ b w.if-key-rest.false w.if-rest-key-eq-NUL.true
    ]

pub offset_bounds-rest-key : goal.offset_bounds-rest-key
offset_bounds-rest-key c = omega (arith, inside (goal.at.offset_bounds-rest-key c).After-find_near)

pub bounds-rest-key : goal.bounds-rest-key
bounds-rest-key c = omega (arith, inside (goal.at.bounds-rest-key c).After-find_near, c.if-key-rest.false)

pub overflow_add-from-2 : goal.overflow_add-from-2
overflow_add-from-2 c =
    omega (arith, end_inside _ _ (begun (goal.at.overflow_add-from-2 c).After-find_near) c.if-key-rest.false _ (found c))

pub returns-then-from-value : goal.returns-then-from-value
returns-then-from-value c =
    let at = goal.at.returns-then-from-value c in
    value_cut _ _ (begun at.After-find_near) c.if-key-rest.false c.if-rest-key-eq-NUL.false _ (found at.After-find_nul-value) c.if-from-value.true

pub returns-else-from-value : goal.returns-else-from-value
returns-else-from-value c =
    let at = goal.at.returns-else-from-value c in
    good_met _ _ (begun at.After-find_near) c.if-key-rest.false c.if-rest-key-eq-NUL.false _ (found at.After-find_nul-value) c.if-from-value.false
