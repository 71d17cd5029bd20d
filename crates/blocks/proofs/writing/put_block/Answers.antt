-- `blocks::writing::put_block` meets its contract. Assumes nothing.
use Rattle.rules.specs.Block.{block_limit}
use Rattle.rules.specs.Record.{entries_of}
use Rattle.blocks.proofs.Entries.{block_empty, block_full, block_past}
use Rattle.blocks.proofs.writing.put_block.Goals as goal

pub returns-then-end-gt-BLOCK_LIMIT : goal.returns-then-end-gt-BLOCK_LIMIT
unfolding block_limit
returns-then-end-gt-BLOCK_LIMIT c =
    let a = c.args in
    block_past block_limit _ (entries_of a.text.now a.records.now) c.put_entries-end.ensures c.if-end-gt-BLOCK_LIMIT.true

pub returns-then-end-eq0 : goal.returns-then-end-eq0
unfolding block_limit
returns-then-end-eq0 c =
    let a = c.args in
    let entries = c.put_entries-end in
    let tested = c.if-end-gt-BLOCK_LIMIT in
    block_empty block_limit _ (entries_of a.text.now a.records.now) entries.ensures tested.false c.if-end-eq0.true c.put.ensures c.put-then-end-eq0.ensures

pub returns-else-end-eq0 : goal.returns-else-end-eq0
unfolding block_limit
returns-else-end-eq0 c =
    let a = c.args in
    let entries = c.put_entries-end in
    block_full block_limit _ (entries_of a.text.now a.records.now) entries.ensures c.if-end-gt-BLOCK_LIMIT.false c.if-end-eq0.false c.put.ensures
