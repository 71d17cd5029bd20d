-- The words of a line, which are separated by one space each. Assumes nothing.
use Rattle.std.specs.Prelude.{ℕ, List, [], ◌∷◌, eqb, leb, length, drop}
use Rattle.rules.specs.Choice.{pick}

-- a byte in front of the first word
abbrev pub onto : ℕ → List (List ℕ) → List (List ℕ)
onto x [] = (x ∷ []) ∷ []
onto x (word ∷ more) = (x ∷ word) ∷ more

-- "Words are separated by one space": two spaces in a row have an empty word between them, which is in no form
unfoldable pub words_of : List ℕ → List (List ℕ)
words_of [] = [] ∷ []
words_of (x ∷ xs) = let more = words_of xs in pick (eqb x 32) ([] ∷ more) (onto x more)

-- the words from an index on; past the end there are none
unfoldable pub words_at : List ℕ → ℕ → List (List ℕ)
unfolding words_of
words_at line at = pick (leb at (length line)) (words_of (drop at line)) []
