-- `words::shapes::shape_at` meets its contract. Assumes nothing.
use Rattle.std.proofs.Common.{arith, ◌≡◌, get_or, ◌-◌, min, length, ◌∙◌}
use Rattle.std.proofs.lemmas.Grind.{common_steps}
use Rattle.std.proofs.lemmas.Option.{gets}
use Rattle.words.specs.Shape.{shape_at}
use Rattle.words.proofs.Pairs.{no_shape}
use Rattle.words.proofs.shapes.shape_at.Goals as goal

pub returns-in_err-letter : goal.returns-in_err-letter
returns-in_err-letter c =
    let e : length c.args.letters.now ≡ 0 = grind (arith, common_steps, gets) in
    c.from_residual.ensures ∙ no_shape _ _ e

pub returns : goal.returns
unfolding shape_at
returns c =
    let e : c.in_ok-letter.letter.now ≡ get_or c.args.letters.now (min c.args.index (length c.args.letters.now - 1)) 0 = grind (arith, common_steps, gets) in
    rw (← e) c.shape_of.ensures
