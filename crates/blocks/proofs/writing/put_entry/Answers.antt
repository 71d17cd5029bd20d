-- `blocks::writing::put_entry` meets its contract. Assumes nothing.
use native.Mathlib.Omega.{arith}
use Rattle.rules.specs.Block.{block_limit}
use Rattle.rules.specs.Record.{entry_of}
use Rattle.blocks.specs.Entries.{ruled}
use Rattle.blocks.proofs.Entries.{entry_written}
use Rattle.blocks.proofs.writing.put_entry.Goals as goal

pub overflow_add-mark : goal.overflow_add-mark
unfolding block_limit
overflow_add-mark c = omega (arith, c.part_of-key.type_inv, c.requires)

pub overflow_add-start : goal.overflow_add-start
unfolding block_limit
overflow_add-start c =
    let key = c.part_of-key in
    omega (arith, key.type_inv, c.requires)

pub overflow_add-last : goal.overflow_add-last
unfolding block_limit
overflow_add-last c =
    let key = c.part_of-key in
    omega (arith, key.type_inv, c.part_of-value.type_inv, c.requires)

pub overflow_add-result : goal.overflow_add-result
unfolding block_limit
overflow_add-result c =
    let key = c.part_of-key in
    let value = c.part_of-value in
    omega (arith, key.type_inv, value.type_inv, c.requires)

pub returns : goal.returns
returns c =
    let a = c.args in
    let key = c.part_of-key in
    let copied = c.copy_run in
    let marked = c.put in
    let value = c.part_of-value in
    entry_written (entry_of a.text.now (ruled a.entry)) a.at key.ensures.names value.ensures.names copied.ensures marked.ensures c.copy_run-2.ensures c.put-2.ensures
