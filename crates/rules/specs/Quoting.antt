-- The form of one regular argument of an ordinary line. Assumes nothing.
use Rattle.std.specs.Prelude.{ℕ, ◌+◌, ◌*◌, Bool, true, false, List, [], ◌∷◌, ◌++◌, replicate}
use Rattle.rules.specs.Choice.{pick, either, any, is_empty}
use Rattle.rules.specs.Unit.{is_quote, is_backslash, is_blank, quote, backslash}

-- a run of k backslashes
abbrev pub slashes : ℕ → List ℕ
slashes k = replicate k backslash

-- The units of an argument behind k backslashes that are not written yet; q says whether it stands in quotes.
-- "A quote mark inside, after k backslashes, is written as 2k+1 backslashes and a quote. k backslashes at the end are doubled if the
-- argument is quoted, else kept." Anywhere else they stay k.
unfoldable pub escaped : Bool → ℕ → List ℕ → List ℕ
escaped q k [] = slashes (pick q (2 * k) k)
escaped q k (x ∷ xs) =
    let counted = escaped q (k + 1) xs in
    let marked = slashes (2 * k + 1) ++ x ∷ escaped q 0 xs in
    let kept = slashes k ++ x ∷ escaped q 0 xs in
    let plain = pick (is_quote x) marked kept in
    pick (is_backslash x) counted plain

-- "in quotes if it is empty, has a blank, or quotes are forced"
unfoldable pub needs_quotes : Bool → List ℕ → Bool
needs_quotes force xs = either force (either (is_empty xs) (any is_blank xs))

-- units between two quote marks
abbrev pub enclosed : List ℕ → List ℕ
enclosed xs = quote ∷ xs ++ quote ∷ []

-- the form of a regular argument
unfoldable pub form : Bool → List ℕ → List ℕ
unfolding needs_quotes escaped
form force xs = pick (needs_quotes force xs) (enclosed (escaped true 0 xs)) (escaped false 0 xs)
