-- `blocks::judging::first_outside` meets its contract. Assumes nothing.
use Rattle.std.proofs.Common.{rules, ◌≡◌, sym, ◌∙◌}
use borrow.Author.Tests.{tests}
use Rattle.std.specs.List.{position}
use Rattle.std.proofs.lemmas.Iterator.{YieldsList-from_slice}
use Rattle.std.proofs.lemmas.Iterator.Search.{position_from_yields_List}
use Rattle.blocks.proofs.Flat.{fours}
use Rattle.blocks.proofs.Faults.{exceeding, outside_first, none_outside, cut_outside}
use Rattle.blocks.proofs.judging.first_outside.Goals.{After-position-found}
use Rattle.blocks.proofs.judging.first_outside.Goals as goal

-- the index at which the test first holds, as it was found
found : (c : After-position-found) → c.position-found.result ≡ position (exceeding c.args.text.now c.args.records.now) (fours c.args.records.now)
found c =
    position_from_yields_List _ _ _ c.position-found.result c.position-found.ensures.ran (YieldsList-from_slice (fours c.args.records.now) cc)
    (λ x b q k. search (rules, tests))

pub returns-in-Some : goal.returns-in-Some
returns-in-Some c =
    let a = c.args in
    rw c.in-Some.is at (outside_first a.text.now a.records.now c.position-found.result (found (goal.at.returns-in-Some c).After-position-found))

pub returns-in-None : goal.returns-in-None
returns-in-None c =
    let a = c.args in
    let rest = c.as_chunks.result.1.now in
    let none = sym (found (goal.at.returns-in-None c).After-position-found) ∙ c.in-None.is in
    none_outside a.text.now a.records.now none rest c.as_chunks.ensures.back (search (rules, tests))

pub returns-in-None-2 : goal.returns-in-None-2
returns-in-None-2 c =
    let a = c.args in
    let rest = c.as_chunks.result.1.now in
    let none = sym (found (goal.at.returns-in-None-2 c).After-position-found) ∙ c.in-None.is in
    rw c.as_chunks.ensures.front (cut_outside a.text.now a.records.now none rest c.as_chunks.ensures.back (search (rules, tests)))
