-- `scans::has_quote` meets its contract. Assumes nothing.
use mathlib.Core.Path.{◌∙◌}
use Rattle.laws.specs.Scan.{any_twice}
use Rattle.scans.proofs.has_quote.Goals as goal

pub returns : goal.returns
returns c = c.has_either.ensures ∙ any_twice 34 c.args.units.now
