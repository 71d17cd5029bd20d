-- `quoting::marks::eight_plain` meets its contract. Assumes nothing.
use mathlib.Core.Path.{◌∙◌, ◌≡◌, sym}
use mathlib.Core.Bool.{false}
use Rattle.rules.specs.Choice.{any}
use Rattle.rules.specs.Record.{part}
use Rattle.rules.specs.Batch.{ends_in_backslash}
use Rattle.quoting.specs.Emitted.{is_mark}
use Rattle.quoting.proofs.Plainly.{eighth, unmarked}
use Rattle.quoting.proofs.marks.eight_plain.Goals as goal

pub returns-then-not-eight_have_either : goal.returns-then-not-eight_have_either
returns-then-not-eight_have_either c =
    let a = c.args in
    let b = part a.units.now a.at 8 in
    let e : any (is_mark a.batch) b ≡ false = sym (rw c.other_mark.ensures at c.eight_have_either.ensures) ∙ c.if-not-eight_have_either.true in
    unmarked (ends_in_backslash b) (any (is_mark a.batch) b) _ e (eighth a.units.now a.at c.requires)
