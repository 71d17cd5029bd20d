-- Tests that a number is none of some. Assumes nothing.
use Rattle.std.specs.Prelude.{◌≡◌, refl, Bool, true, false, not, ◌&&◌}
use Rattle.rules.specs.Choice.{either, flip}

-- neither of two
pub neither : (a b : Bool) → not a && not b ≡ flip (either a b)
neither true b = refl
neither false true = refl
neither false false = refl

joined : (a b : Bool) → flip a && flip b ≡ flip (either a b)
joined true b = refl
joined false true = refl
joined false false = refl

-- none of four
pub none_of : (a b c d : Bool) → not a && not b && (not c && not d) ≡ flip (either (either a b) (either c d))
none_of a b c d = rw (neither a b, neither c d) (joined (either a b) (either c d))
