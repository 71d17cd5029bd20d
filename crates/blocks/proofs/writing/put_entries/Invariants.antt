-- The invariant of `blocks::writing::put_entries`. Assumes nothing.
use mathlib.Core.List.{map}
use lib.ListN.{drop}
use Rattle.rules.specs.Block.{block_limit}
use Rattle.blocks.proofs.Entries.{Putting}
use Rattle.blocks.proofs.Flat.{named}
use Rattle.blocks.proofs.writing.put_entries.Given as goal

abbrev pub invariant-loop-numbers : goal.invariant-loop-numbers
invariant-loop-numbers l = Putting block_limit (map (named l.text) l.whole) (map (named l.text) (drop l.numbers-index l.whole)) l.initial.out l.out l.to
