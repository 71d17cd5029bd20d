-- Reading an environment block (02, E1). Assumes nothing.
-- "The reader lists key and value spans in the lent block itself."
use Rattle.std.specs.Prelude.{ℕ, ◌+◌, ◌*◌, Bool, false, List, [], ◌∷◌, map, ltb, length, drop}
use Rattle.rules.specs.Choice.{pick, flip, any}
use Rattle.rules.specs.Unit.{is_nul, is_equals}
use Rattle.rules.specs.Outcome.{Outcome, done, refuse, Finding, sound, wrong, wrong_if, fault_from, first_fault, unless}
use Rattle.rules.specs.Record.{Lent, whole, cut, wholes, Entry}
use Rattle.rules.specs.Reading.{places_of}
use Rattle.rules.specs.Block.{block_limit}

-- ---- where an entry ends

-- one unit more in front of the first piece
unfoldable pub longer : ℕ → List (Lent (List ℕ)) → List (Lent (List ℕ))
longer x [] = []
longer x (whole a ∷ more) = whole (x ∷ a) ∷ more
longer x (cut ∷ more) = cut ∷ more

-- "An entry ends at NUL": the pieces of a slice, each without its NUL. The last one, which may have no units, runs into the end of the slice.
unfoldable pub pieces : List ℕ → List (Lent (List ℕ))
unfolding longer
pieces [] = cut ∷ []
pieces (x ∷ xs) =
    let next = pieces xs in
    let begun = longer x next in
    pick (is_nul x) (whole [] ∷ next) begun

-- The pieces before the final NUL, which is a piece without units. "A missing final NUL counts as the entry after the last": it is the cut piece there.
unfoldable pub before_final : List (Lent (List ℕ)) → List (Lent (List ℕ))
before_final [] = []
before_final (whole [] ∷ more) = []
before_final (whole (x ∷ xs) ∷ more) = whole (x ∷ xs) ∷ before_final more
before_final (cut ∷ more) = cut ∷ []

-- the first unit is there and is NUL
abbrev pub starts_with_nul : List ℕ → Bool
starts_with_nul [] = false
starts_with_nul (x ∷ xs) = is_nul x

-- The entries that stand in a slice, good and bad. "A block with no entries is two NULs"; bad is one whose "first unit is NUL and the second isn't there or
-- isn't NUL (place 1)". "Units after the final NUL are ignored".
unfoldable pub lent_entries : List ℕ → List (Lent (List ℕ))
unfolding pieces before_final
lent_entries lent =
    let some = before_final (pieces lent) in
    let none = pick (starts_with_nul (drop 1 lent)) [] (cut ∷ []) in
    pick (starts_with_nul lent) none some

-- ---- where an entry splits

-- the units before the first `=`
unfoldable pub before_equals : List ℕ → List ℕ
before_equals [] = []
before_equals (x ∷ xs) = let kept = x ∷ before_equals xs in pick (is_equals x) [] kept

-- the units behind the first `=`
unfoldable pub behind_equals : List ℕ → List ℕ
behind_equals [] = []
behind_equals (x ∷ xs) = let next = behind_equals xs in pick (is_equals x) xs next

-- it has a `=` that isn't its first unit
abbrev pub splits : List ℕ → Bool
splits [] = false
splits (x ∷ xs) = any is_equals xs

-- An entry "splits at its first `=` that isn't its first unit, so `=C:=x` has the key `=C:`". No entry is without units, so the first clause is never
-- reached.
unfoldable pub split_of : List ℕ → Entry
unfolding before_equals behind_equals
split_of [] = record { key = []; value = [] }
split_of (x ∷ xs) = record { key = x ∷ before_equals xs; value = behind_equals xs }

-- 8: "an entry, or the final NUL, runs into the end of the slice; an entry has no such `=`"
abbrev pub piece_finding : Lent (List ℕ) → Finding
piece_finding (whole a) = wrong_if 8 (flip (splits a)) sound
piece_finding cut = wrong 8

-- the entries that a slice gives where none is bad
unfoldable pub entries_read : List ℕ → List Entry
unfolding lent_entries split_of wholes
entries_read lent = map split_of (wholes (lent_entries lent))

-- ---- spans and the units used

-- the units of an entry: key, `=`, value, NUL
abbrev pub entry_size : Entry → ℕ
entry_size e = length e.key + 1 + length e.value + 1

-- the units of the entries
abbrev pub entry_sizes : List Entry → ℕ
entry_sizes [] = 0
entry_sizes (e ∷ more) = entry_size e + entry_sizes more

-- "the count used is reported": the entries and the final NUL, or two NULs
abbrev pub units_used : List Entry → ℕ
units_used [] = 2
units_used (e ∷ more) = entry_sizes (e ∷ more) + 1

-- "key and value spans in the lent block itself": start and length of the key, start and length of the value, where the first entry starts at the number
-- given
abbrev pub entry_spans_from : ℕ → List Entry → List ℕ
entry_spans_from start [] = []
entry_spans_from start (e ∷ more) =
    start ∷ length e.key ∷ (start + length e.key + 1) ∷ length e.value ∷ entry_spans_from (start + entry_size e) more

-- the numbers of the span table
abbrev pub entry_spans : List Entry → List ℕ
entry_spans entries = entry_spans_from 0 entries

-- ---- the whole outcome

-- "A slice over 65,535 units is refusal 2, tested first. New refusal 8, with the number of the first bad entry counted from 1 as its place .. Then 3, if the
-- table has under two places for each entry." The numbers are those of the span table.
unfoldable pub block_reading : List ℕ → ℕ → Outcome (List Entry)
unfolding block_limit lent_entries entries_read fault_from
block_reading lent numbers =
    let entries = entries_read lent in
    refuse 2 (ltb block_limit (length lent))
    (unless (first_fault piece_finding (lent_entries lent)) (refuse 3 (ltb (places_of numbers) (2 * length entries)) (done entries)))
