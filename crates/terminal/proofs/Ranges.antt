-- Tests on ranges of numbers. Assumes nothing.
use Prim.Native.Nat.{ℕ, ◌≤◌, ◌<◌}
use mathlib.Core.Path.{◌≡◌, refl}
use mathlib.Core.Bool.{Bool, true, false}
use lib.Dec.{leb}
use borrow.Author.Tests.{le-leb, lt-leb}
use Rattle.rules.specs.Choice.{both}
use Rattle.rules.specs.Unit.{within}

module _ (least most x : ℕ) where
  -- in the range
  pub in_range : least ≤ x → x ≤ most → within least most x ≡ true
  in_range a b = rw (le-leb least x a, le-leb x most b)

  -- below it
  pub below : x < least → within least most x ≡ false
  below h = rw (lt-leb least x h)

  -- above it
  pub above : most < x → within least most x ≡ false
  above h = go (leb least x)
    where
      go : (b : Bool) → both b (leb x most) ≡ false
      go true = lt-leb x most h
      go false = refl
