-- `forms::texts::take_units` meets its contract. Assumes nothing.
use mathlib.Core.Path.{◌∙◌, sym}
use Rattle.std.proofs.Common.{inl, inr}
use Rattle.forms.proofs.Putting.{all_put, cut_form, none_yet, one_put}
use Rattle.forms.proofs.texts.take_units.Goals.{in-Unit, in-Still}
use Rattle.forms.proofs.texts.take_units.Goals as goal

pub loop-byte-preserved : goal.loop-byte-preserved
loop-byte-preserved c =
    let i = c.loop-byte.invariant in
    let t = c.loop-byte-test.true in
    let e = sym c.in_ok-unit.was ∙ c.take_byte.ensures in
    elim c.match-branch-2.branch [
      | in-Unit w ↦ rw (w.text-is, w.spot-is, w.n-is) (one_put i t (rw w.in-Unit.is at e))
      | in-Still w ↦ rw (w.text-is, w.spot-is, w.n-is) (none_yet i t (rw w.in-Still.is at e))
    ]

pub returns-in-Outside : goal.returns-in-Outside
returns-in-Outside c = all_put (rw c.in-Outside.is at c.loop-byte.invariant) c.loop-byte-test.false

pub returns-in-Opened : goal.returns-in-Opened
returns-in-Opened c =
    elim c.in-Opened.is [
      | inl e ↦ cut_form c.loop-byte.invariant c.loop-byte-test.false (rw e)
      | inr e ↦ cut_form c.loop-byte.invariant c.loop-byte-test.false (rw e.1)
    ]
