-- The batch suffix of a path. Assumes nothing.
use Rattle.std.specs.Prelude.{ℕ, ◌-◌, Bool, false, List, [], ◌∷◌, eqb, length, drop}
use Rattle.rules.specs.Choice.{either, both}

-- a letter in either case
abbrev pub one_of : ℕ → ℕ → ℕ → Bool
one_of a b x = either (eqb x a) (eqb x b)

-- "the last four units are 46, then 98 or 66, 97 or 65, 116 or 84; or 46, then 99 or 67, 109 or 77, 100 or 68"
unfoldable pub is_suffix : List ℕ → Bool
is_suffix [] = false
is_suffix (a ∷ []) = false
is_suffix (a ∷ b ∷ []) = false
is_suffix (a ∷ b ∷ c ∷ []) = false
is_suffix (a ∷ b ∷ c ∷ d ∷ []) =
    both (eqb a 46)
    (either
    (both (one_of 98 66 b) (both (one_of 97 65 c) (one_of 116 84 d)))
    (both (one_of 99 67 b) (both (one_of 109 77 c) (one_of 100 68 d))))
is_suffix (a ∷ b ∷ c ∷ d ∷ e ∷ more) = false

-- the last four units of a path are such. "A path under four units never has it": then nothing is dropped and fewer than four are left.
unfoldable pub has_batch_suffix : List ℕ → Bool
unfolding is_suffix
has_batch_suffix path = is_suffix (drop (length path - 4) path)
