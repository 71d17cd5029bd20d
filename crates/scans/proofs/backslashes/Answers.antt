-- `scans::backslashes` meets its contract. Assumes nothing.
use Rattle.std.proofs.Common.{refl, rules, tests}
use Rattle.std.proofs.lemmas.Iterator.{YieldsList-from_slice}
use Rattle.std.proofs.lemmas.Iterator.Search.{position_from_yields_List}
use Rattle.rules.specs.Choice.{flip}
use Rattle.rules.specs.Unit.{is_backslash}
use Rattle.scans.proofs.Runs.{first_or_end}
use Rattle.scans.proofs.backslashes.Goals as goal

pub returns : goal.returns
returns c =
    let xs = c.args.rest.now in
    let found = position_from_yields_List (λ x. flip (is_backslash x)) _ _ c.position.result c.position.ensures.ran (YieldsList-from_slice xs cc) (λ x b q k. search (rules, tests)) in
    first_or_end is_backslash _ (λ x. refl) xs c.position.result c.unwrap_or.result found (search rules)
