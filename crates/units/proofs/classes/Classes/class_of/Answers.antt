-- `units::classes::Classes::class_of` meets its contract. Assumes nothing.
use borrow.Author.Rules.{rules}
use mathlib.Core.Path.{sym, ◌∙◌}
use Rattle.laws.specs.Class.{class_above}
use Rattle.units.proofs.Table.{class_at}
use Rattle.units.proofs.classes.Classes.class_of.Goals as goal

pub returns-in-Some : goal.returns-in-Some
returns-in-Some c =
    c.in-Some.ensures.lookup.1 ∙ rw (c.from.ensures, c.args.self.now.is_table) (class_at _ _ (search rules))

pub returns-in-None : goal.returns-in-None
returns-in-None c = sym (class_above _ (search rules))
