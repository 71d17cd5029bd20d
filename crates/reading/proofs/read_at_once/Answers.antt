-- `reading::read_at_once` meets its contract. Assumes nothing.
use mathlib.Core.Path.{refl}
use Rattle.reading.proofs.Outcome.{all_housed, gives}
use Rattle.reading.proofs.read_at_once.Goals as goal

pub returns : goal.returns
returns c =
    let h = c.requires.1 in gives (all_housed _ _ _ h) c.lay_line.ensures refl refl h.text h.places
