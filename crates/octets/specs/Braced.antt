-- A unit in braces. Assumes nothing.
use Rattle.std.specs.Prelude.{ℕ, ◌≤◌, List, [], ◌∷◌, ◌++◌, length}
use Rattle.std.proofs.Common.{arith, length-append}
use Rattle.rules.specs.Status.{digits}
use Rattle.laws.specs.Digits.{digits_short}

-- "`{hex}` (lower case, no leading zeros)": a number below 65,536 has at most 4 hexadecimal digits
unfoldable pub braced : ℕ → List ℕ
unfolding digits
braced x = 123 ∷ digits 16 3 x ++ 125 ∷ []

-- it takes at most 6 bytes
pub braced_short : (x : ℕ) → length (braced x) ≤ 6
unfolding braced
braced_short x = let e = length-append (digits 16 3 x) (125 ∷ []) in omega (arith, digits_short 16 3 x)
