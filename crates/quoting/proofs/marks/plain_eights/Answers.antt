-- `quoting::marks::plain_eights` meets its contract. Assumes nothing.
use mathlib.Core.Path.{◌∙◌, sym}
use Rattle.quoting.proofs.Plainly.{eight_more, none_plain}
use borrow.Author.Rules.{rules}
use Rattle.quoting.proofs.marks.plain_eights.Goals as goal

pub loop-n-init : goal.loop-n-init
loop-n-init c = none_plain _ _

pub loop-n-preserved : goal.loop-n-preserved
loop-n-preserved c = eight_more _ _ _ c.loop-n.invariant (search rules) (sym c.eight_plain.ensures ∙ c.if-eight_plain.true)

pub returns-else-eight_plain : goal.returns-else-eight_plain
returns-else-eight_plain c = c.loop-n.invariant

pub returns-after-loop-n : goal.returns-after-loop-n
returns-after-loop-n c = c.loop-n.invariant
