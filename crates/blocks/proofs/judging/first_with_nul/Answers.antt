-- `blocks::judging::first_with_nul` meets its contract. Assumes nothing.
use Rattle.std.proofs.Common.{rules, ◌+◌, ◌≡◌, ◌∙◌}
use borrow.Author.Tests.{tests}
use Rattle.std.specs.List.{position}
use Rattle.std.specs.Option.{option_map}
use Rattle.std.proofs.lemmas.Iterator.{YieldsList-from_slice}
use Rattle.std.proofs.lemmas.Iterator.Search.{position_from_yields_List}
use Rattle.blocks.proofs.Flat.{fours}
use Rattle.blocks.proofs.Faults.{with_nul, nul_first, place_told}
use Rattle.blocks.proofs.judging.first_with_nul.Goals as goal

pub returns : goal.returns
returns c =
    let a = c.args in
    let found : c.position-found.result ≡ position (with_nul a.text.now a.records.now) (fours a.records.now) =
    position_from_yields_List _ _ _ c.position-found.result c.position-found.ensures.ran (YieldsList-from_slice (fours a.records.now) cc) (λ x b q k. search (rules, tests)) in
    let place : c.map.result ≡ option_map (λ i. i + 1) c.position-found.result = search rules in
    nul_first a.text.now a.records.now c.position-found.result found ∙ (rw place (place_told 5 c.position-found.result))
