-- The last four units of a path. Assumes nothing.
use Prim.Native.Nat.{suc, ◌-◌, ◌≤◌, ◌<◌, ℕ}
use native.Mathlib.Omega.{arith}
use mathlib.Core.Path.{◌≡◌, refl}
use mathlib.Core.Bool.{false}
use mathlib.Core.List.{List, [], ◌∷◌}
use lib.ListN.{length, get_or}
use lib.Seq.{drop-cons, drop-length}
use Rattle.std.proofs.lemmas.Bool.Decides.{nat_tests}
use Rattle.rules.specs.Suffix.{is_suffix, has_batch_suffix}

-- a path under four units has no suffix
pub short : (path : List ℕ) → length path < 4 → has_batch_suffix path ≡ false
unfolding has_batch_suffix is_suffix
short [] h = refl
short (a ∷ []) h = refl
short (a ∷ b ∷ []) h = refl
short (a ∷ b ∷ c ∷ []) h = refl
short (a ∷ b ∷ c ∷ d ∷ path) h = absurd (omega arith)

-- of a longer one the suffix is judged on the last four
pub last_four : (path : List ℕ) → 4 ≤ length path
    → has_batch_suffix path
    ≡ is_suffix (get_or path (length path - 4) 0 ∷ get_or path (length path - 3) 0 ∷ get_or path (length path - 2) 0 ∷ get_or path (length path - 1) 0 ∷ [])
unfolding has_batch_suffix
last_four path h =
    let e₃ : suc (length path - 4) ≡ length path - 3 = omega arith in
    let e₂ : suc (length path - 3) ≡ length path - 2 = omega arith in
    let e₁ : suc (length path - 2) ≡ length path - 1 = omega arith in
    let e₀ : suc (length path - 1) ≡ length path = omega arith in
    rw (
      drop-cons path (length path - 4) 0 (omega arith),
      e₃,
      drop-cons path (length path - 3) 0 (omega arith),
      e₂,
      drop-cons path (length path - 2) 0 (omega arith),
      e₁,
      drop-cons path (length path - 1) 0 (omega arith),
      e₀,
      drop-length,
    )

-- what tells a suffix by its letters
pub ruleset letters = (nat_tests, short, last_four)
