-- `blocks::make_envp` meets its contract. Assumes nothing.
use mathlib.Core.Path.{◌≡◌}
use Rattle.rules.specs.Block.{block_limit, entry_nul_finding}
use Rattle.rules.specs.Outcome.{faultless, first_fault}
use Rattle.rules.specs.Record.{entry_fault, entries_of}
use Rattle.blocks.proofs.Deciding.{by_block, by_length, by_nul, by_record, by_room}
use Rattle.blocks.proofs.make_envp.Goals.{In_default, In_default-first_with_nul}
use Rattle.blocks.proofs.make_envp.Goals as goal

-- no record is wrong by 1
sound : (c : In_default) → entry_fault c.args.text.now c.args.records.now ≡ faultless
sound c = rw c.in_default.is at c.first_outside.ensures

-- and no entry by 5
clean : (c : In_default-first_with_nul) → first_fault entry_nul_finding (entries_of c.args.text.now c.args.records.now) ≡ faultless
clean c = rw c.in_default-first_with_nul.is at c.first_with_nul.ensures

pub returns-in-Some : goal.returns-in-Some
returns-in-Some c = let a = c.args in by_record a.records.now a.text.now a.out.now c.in-Some.place (rw c.in-Some.is at c.first_outside.ensures)

pub returns-in-Some-first_with_nul : goal.returns-in-Some-first_with_nul
returns-in-Some-first_with_nul c =
    let a = c.args in
    let here = c.in-Some-first_with_nul in
    by_nul a.records.now a.text.now a.out.now (sound (goal.at.returns-in-Some-first_with_nul c).In_default) here.place (rw here.is at c.first_with_nul.ensures)

pub returns-then-units-gt-BLOCK_LIMIT : goal.returns-then-units-gt-BLOCK_LIMIT
unfolding block_limit
returns-then-units-gt-BLOCK_LIMIT c =
    let a = c.args in
    let at = goal.at.returns-then-units-gt-BLOCK_LIMIT c in
    by_length a.records.now a.text.now a.out.now (sound at.In_default) (clean at.In_default-first_with_nul) c.block_len-units.result c.block_len-units.ensures
    c.if-units-gt-BLOCK_LIMIT.true

pub returns-then-out-units : goal.returns-then-out-units
unfolding block_limit
returns-then-out-units c =
    let a = c.args in
    let at = goal.at.returns-then-out-units c in
    by_room a.records.now a.text.now a.out.now (sound at.In_default) (clean at.In_default-first_with_nul) c.block_len-units.result c.block_len-units.ensures
    c.if-units-gt-BLOCK_LIMIT.false c.if-out-units.true

pub returns : goal.returns
unfolding block_limit
returns c =
    let a = c.args in
    let at = goal.at.returns c in
    by_block a.records.now a.text.now a.out.now (sound at.In_default) (clean at.In_default-first_with_nul) c.block_len-units.result c.block_len-units.ensures
    c.if-units-gt-BLOCK_LIMIT.false _ _ c.if-out-units.false c.put_block.ensures
