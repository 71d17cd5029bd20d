-- `octets::same` meets its contract. Assumes nothing.
use Rattle.std.proofs.Common.{ℕ, ◌≡◌, Bool, true, false, ◌&&◌, List, [], ◌∷◌, eqb, refl, ◌∙◌}
use Rattle.std.specs.Cmp.Lexicographic.{pointwise}
use Rattle.rules.specs.Choice.{both, equal}
use Rattle.octets.proofs.same.Goals as goal

-- the library compares as the rules do
pointwise_equal : (xs ys : List ℕ) → pointwise eqb xs ys ≡ equal xs ys
unfolding equal
pointwise_equal [] [] = refl
pointwise_equal [] (y ∷ ys) = refl
pointwise_equal (x ∷ xs) [] = refl
pointwise_equal (x ∷ xs) (y ∷ ys) = rw (pointwise_equal xs ys) (go (eqb x y) (equal xs ys))
  where
    go : (a b : Bool) → a && b ≡ both a b
    go true b = refl
    go false b = refl

pub returns : goal.returns
returns c = c.eq.ensures ∙ pointwise_equal c.args.a.now c.args.b.now
