-- `words::rows::letters_of` meets its contract. Assumes nothing.
use native.Mathlib.Omega.{arith}
use mathlib.Core.Path.{◌≡◌, sym}
use Rattle.std.proofs.Common.{◌+◌, ◌≤◌, length, drop}
use Rattle.std.proofs.lemmas.Grind.{common_steps}
use lib.Seq.{length-take-le}
use Rattle.laws.specs.Scan.{leading_in}
use Rattle.words.proofs.Lining.{letters_are}
use Rattle.words.proofs.rows.letters_of.Goals as goal

pub overflow_add-verb : goal.overflow_add-verb
overflow_add-verb c =
    let l : c.find-verb.result ≤ length c.args.row.now = rw c.find-verb.ensures (leading_in _ _) in
    omega (arith, c.well_formed)

pub slice_bounds-result-end : goal.slice_bounds-result-end
slice_bounds-result-end c = sym (length-take-le _ _ (rw c.find.ensures (leading_in _ _)))

pub returns : goal.returns
returns c =
    let e : c.unwrap_or_default-rest.result.now ≡ drop (c.find-verb.result + 1) c.args.row.now = grind (arith, common_steps) in
    rw (letters_are c.args.row.now, ← c.find-verb.ensures, ← e, ← c.find.ensures)
