-- `entries::walking::no_entries` meets its contract. Assumes nothing.
use native.Mathlib.Omega.{arith}
use Rattle.entries.proofs.Passing.{lone_told, none_told, lone_short, lone_other, second_nul}
use Rattle.entries.proofs.walking.no_entries.Goals as goal

pub returns-in-0 : goal.returns-in-0
returns-in-0 c = none_told _ c.requires (second_nul c.args.block.now c.in-0.len_at_least (omega arith))

pub returns-in_default : goal.returns-in_default
returns-in_default c = lone_told _ c.requires (lone_short c.args.block.now c.in_default.len_below)

pub returns-in_default-2 : goal.returns-in_default-2
returns-in_default-2 c = lone_told _ c.requires (lone_other c.args.block.now (omega arith))
