-- `blocks::writing::put_entries` meets its contract. Assumes nothing.
use mathlib.Core.Path.{◌≡◌, ap, sym, ◌∙◌}
use mathlib.Core.List.{map}
use Rattle.rules.specs.Block.{block_limit}
use Rattle.rules.specs.Record.{entries_of}
use Rattle.blocks.proofs.Entries.{all_put, one_put, too_many}
use Rattle.blocks.proofs.Flat.{named, all_entries, next_entry, no_entry}
use Rattle.blocks.proofs.writing.put_entries.Goals.{After-as_chunks}
use Rattle.blocks.proofs.writing.put_entries.Goals as goal

-- the entries are those that the fours name
same : (c : After-as_chunks) → map (named c.args.text.now) c.as_chunks.result.0.now ≡ entries_of c.args.text.now c.args.records.now
same c = ap (map (named c.args.text.now)) c.as_chunks.ensures.front ∙ sym (all_entries c.args.text.now c.args.records.now)

pub returns-then-to-gt-BLOCK_LIMIT : goal.returns-then-to-gt-BLOCK_LIMIT
unfolding block_limit
returns-then-to-gt-BLOCK_LIMIT c =
    let whole = c.as_chunks.result.0.now in
    let next = next_entry c.args.text.now whole c.loop-numbers.numbers-index c.from.ensures c.loop-numbers-test.true in
    rw (← same (goal.at.returns-then-to-gt-BLOCK_LIMIT c).After-as_chunks) (too_many c.loop-numbers.invariant next c.put_entry-to.ensures c.if-to-gt-BLOCK_LIMIT.true)

pub loop-numbers-preserved : goal.loop-numbers-preserved
unfolding block_limit
loop-numbers-preserved c =
    let whole = c.as_chunks.result.0.now in
    let next = next_entry c.args.text.now whole c.loop-numbers.numbers-index c.from.ensures c.loop-numbers-test.true in
    one_put c.loop-numbers.invariant next c.put_entry-to.ensures c.if-to-gt-BLOCK_LIMIT.false c.put_entry-to.auto.out

pub returns : goal.returns
returns c =
    let none = no_entry c.args.text.now c.as_chunks.result.0.now c.loop-numbers.numbers-index c.loop-numbers-test.false in
    rw (← same (goal.at.returns c).After-as_chunks) (all_put c.loop-numbers.invariant none)
