-- `entries::read_envp` meets its contract. Assumes nothing.
use Rattle.std.proofs.lemmas.Result.{err_from_is_err_and}
use Rattle.rules.specs.Block.{block_limit}
use Rattle.entries.proofs.Answering.{by_length, by_entry, by_places, by_entries}
use Rattle.entries.specs.Tallied.{Counted}
use Rattle.entries.proofs.read_envp.Goals.{In_ok-need}
use Rattle.entries.proofs.read_envp.Goals as goal

-- what the first walk counted
counted : (c : In_ok-need) → Counted c.args.block.now c.in_ok-need.need
counted c = c.in_ok-need.ensures.told

pub returns-then-block-gt-BLOCK_LIMIT : goal.returns-then-block-gt-BLOCK_LIMIT
unfolding block_limit
returns-then-block-gt-BLOCK_LIMIT c = by_length c.args.block.now c.args.spans.now c.if-block-gt-BLOCK_LIMIT.true

pub walk-requires : goal.walk-requires
unfolding block_limit
walk-requires c = c.if-block-gt-BLOCK_LIMIT.false

pub returns-in_err-need : goal.returns-in_err-need
unfolding block_limit
returns-in_err-need c =
    let p = err_from_is_err_and c.from_residual.result c.from_residual.ensures.1 in
    rw (p.1, p.2) (by_entry c.args.block.now c.args.spans.now c.if-block-gt-BLOCK_LIMIT.false c.in_err-need.ensures.told)

pub returns-then-spans-need : goal.returns-then-spans-need
unfolding block_limit
returns-then-spans-need c =
    by_places c.args.block.now c.args.spans.now c.if-block-gt-BLOCK_LIMIT.false (counted (goal.at.returns-then-spans-need c).In_ok-need) c.if-spans-need.true

pub walk-requires-2 : goal.walk-requires-2
unfolding block_limit
walk-requires-2 c = c.if-block-gt-BLOCK_LIMIT.false

pub returns : goal.returns
unfolding block_limit
returns c =
    by_entries c.args.block.now c.args.spans.now c.if-block-gt-BLOCK_LIMIT.false (counted (goal.at.returns c).In_ok-need) _ c.if-spans-need.false c.walk-2.ensures
