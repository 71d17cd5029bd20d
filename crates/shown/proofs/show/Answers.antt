-- `shown::show` meets its contract. Assumes nothing.
use Rattle.std.proofs.Common.{rules, arith}
use Rattle.shown.proofs.Showing.{all_shown, no_room, pair_shown, unit_shown}
use Rattle.shown.proofs.show.Goals as goal

pub returns-in-empty : goal.returns-in-empty
returns-in-empty c = all_shown c.loop-to.invariant c.in-empty.len_below c.loop-to-test.true

pub loop-to-preserved-then-rest-lt57344 : goal.loop-to-preserved-then-rest-lt57344
loop-to-preserved-then-rest-lt57344 c =
    pair_shown c.loop-to.invariant c.loop-to-test.true (search rules) (search rules) (search rules) c.joined_of.ensures c.put_char-to.ensures

pub loop-to-preserved : goal.loop-to-preserved
loop-to-preserved c = unit_shown c.loop-to.invariant c.loop-to-test.true (search rules) (λ n a b d e. grind arith) c.put_single-to.ensures

pub returns : goal.returns
returns c = no_room c.loop-to.invariant c.loop-to-test.false
