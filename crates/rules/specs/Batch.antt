-- The form of one regular argument of a batch line. Assumes nothing.
use Rattle.std.specs.Prelude.{ℕ, ◌+◌, ◌*◌, Bool, true, false, List, [], ◌∷◌, ◌++◌}
use Rattle.rules.specs.Choice.{pick, either, any, is_empty}
use Rattle.rules.specs.Unit.{units, is_quote, is_backslash, is_percent, is_forcing, quote}
use Rattle.rules.specs.Quoting.{slashes, enclosed}

-- The units of a batch argument behind k backslashes that are not written yet; q says whether it stands in quotes.
-- "A quote after k backslashes becomes 2k backslashes and two quotes. `%` becomes the eight units `%%cd:~,%`. Backslashes at the end are
-- doubled inside quotes." Anywhere else they stay k.
unfoldable pub batch_escaped : Bool → ℕ → List ℕ → List ℕ
unfolding units
batch_escaped q k [] = slashes (pick q (2 * k) k)
batch_escaped q k (x ∷ xs) =
    let counted = batch_escaped q (k + 1) xs in
    let marked = slashes (2 * k) ++ quote ∷ quote ∷ batch_escaped q 0 xs in
    let hidden = slashes k ++ units "%%cd:~,%" ++ batch_escaped q 0 xs in
    let kept = slashes k ++ x ∷ batch_escaped q 0 xs in
    let plain = pick (is_percent x) hidden kept in
    let other = pick (is_quote x) marked plain in
    pick (is_backslash x) counted other

-- the last unit is a backslash
unfoldable pub ends_in_backslash : List ℕ → Bool
ends_in_backslash [] = false
ends_in_backslash (x ∷ []) = is_backslash x
ends_in_backslash (x ∷ y ∷ ys) = ends_in_backslash (y ∷ ys)

-- "in quotes if forced, empty, ending with a backslash, or holding a forcing unit"
unfoldable pub needs_batch_quotes : Bool → List ℕ → Bool
unfolding ends_in_backslash is_forcing
needs_batch_quotes force xs = either force (either (is_empty xs) (either (ends_in_backslash xs) (any is_forcing xs)))

-- the form of a regular batch argument
unfoldable pub batch_form : Bool → List ℕ → List ℕ
unfolding needs_batch_quotes batch_escaped
batch_form force xs = pick (needs_batch_quotes force xs) (enclosed (batch_escaped true 0 xs)) (batch_escaped false 0 xs)
