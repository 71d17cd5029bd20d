-- `keys::matching::is_key` meets its contract. Assumes nothing.
use native.Mathlib.Omega.{arith}
use mathlib.Core.Path.{◌∙◌, sym}
use lib.ListN.{length, length-append}
use Rattle.laws.specs.Equal.{equal_front, unequal}
use Rattle.rules.specs.Record.{arguments_of}
use Rattle.rules.specs.Store.{code_of}
use lib.Seq.{length-take-le}
use borrow.Author.Rules.{rules}
use Rattle.keys.proofs.matching.is_key.Goals.{then-key-front-via-then-key-front, then-key-front-via-else-key-front+then-not-same_units}
use Rattle.keys.proofs.matching.is_key.Goals as goal

pub returns-then-key-front : goal.returns-then-key-front
returns-then-key-front c =
    let s = c.args in
    let rest = code_of (arguments_of s.lent.now.text.now s.lent.now.records.now) in
    elim c.then-key-front.branch [
      | then-key-front-via-then-key-front w ↦ sym (unequal s.key.now _ λ e. omega (arith, w.if-key-front.true, e, length-append s.lent.now.program.now rest))
      | then-key-front-via-else-key-front+then-not-same_units w ↦ sym (equal_front s.key.now s.lent.now.program.now _ ∙ rw (← w.same_units.ensures, w.if-not-same_units.true))
    ]

pub slice_bounds-same_units-end : goal.slice_bounds-same_units-end
slice_bounds-same_units-end c =
    let s = c.args in
    sym (length-take-le (length s.lent.now.program.now) s.key.now (search rules))

pub returns : goal.returns
returns c =
    let s = c.args in
    sym (equal_front s.key.now s.lent.now.program.now _ ∙ rw (← c.same_units.ensures, c.if-not-same_units.false) (sym c.arguments_at.ensures))
