-- `scans::few_have_either` meets its contract. Assumes nothing.
use Rattle.std.proofs.Common.{◌∙◌, rules, tests}
use Rattle.std.proofs.lemmas.Iterator.{YieldsList-from_slice}
use Rattle.std.proofs.lemmas.Iterator.Search.{any_from_yields_List}
use Rattle.laws.specs.Scan.{is_either}
use Rattle.scans.proofs.Runs.{any_is}
use Rattle.scans.proofs.few_have_either.Goals as goal

pub returns : goal.returns
returns c =
    let s = c.args in
    let found = any_from_yields_List (is_either s.a s.b) _ _ c.any.result c.any.ensures.ran (YieldsList-from_slice s.units.now cc) (λ x b q k. search (rules, tests)) in
    found ∙ any_is (is_either s.a s.b) s.units.now
