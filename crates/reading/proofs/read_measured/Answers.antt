-- `reading::read_measured` meets its contract. Assumes nothing.
use native.Mathlib.Omega.{arith}
use mathlib.Core.Path.{refl}
use lib.ListN.{length}
use Rattle.reading.proofs.Outcome.{no_places, no_room, refuses}
use Rattle.reading.specs.Laid.{line_arguments}
use Rattle.reading.proofs.read_measured.Goals as goal

pub returns-then-spans-need : goal.returns-then-spans-need
returns-then-spans-need c =
    let m = c.lay_line-need.ensures in
    let a = c.args in
    refuses (no_places (line_arguments a.line.now a.exe_name.now) (length a.text.now) (length a.spans.now) (omega (arith, m.counts, c.if-spans-need.true))) refl refl refl

pub returns-then-text-need : goal.returns-then-text-need
returns-then-text-need c =
    let m = c.lay_line-need.ensures in
    let a = c.args in
    refuses
    (no_room (line_arguments a.line.now a.exe_name.now) (length a.text.now) (length a.spans.now) (omega (arith, m.counts, c.if-spans-need.false)) (omega (arith, m.measures, c.if-text-need.true)))
    refl
    refl
    refl
