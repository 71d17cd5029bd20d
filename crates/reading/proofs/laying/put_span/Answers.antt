-- `reading::laying::put_span` meets its contract. Assumes nothing.
use mathlib.Core.Path.{◌∙◌}
use native.Mathlib.Numerals.{add-one}
use Rattle.reading.proofs.laying.put_span.Goals as goal

pub returns : goal.returns
returns c = c.put-2.ensures ∙ rw (c.put.ensures, add-one)
