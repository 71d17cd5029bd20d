-- `units::classes::Classes::new` meets its contract. Assumes nothing.
use mathlib.Core.Path.{refl}
use Rattle.units.specs.Table.{class_table}
use Rattle.units.proofs.classes.Classes.new.Goals as goal

pub invariant_of-result : goal.invariant_of-result
unfolding class_table
invariant_of-result c = record { is_table = refl }
