-- Units that mean nothing special to the reader. Assumes nothing.
use Rattle.std.specs.Prelude.{ℕ, Bool, false}
use Rattle.rules.specs.Choice.{pick, both, flip}
use Rattle.rules.specs.Unit.{is_quote, is_backslash, is_blank}

-- "a blank outside quotes", where q says whether quoted mode is on
abbrev pub is_end : Bool → ℕ → Bool
is_end q x = both (flip q) (is_blank x)

-- in argument 0 every unit is taken as it is but a quote mark and the blank that ends it
abbrev pub is_kept : Bool → ℕ → Bool
is_kept q x = pick (is_quote x) false (flip (is_end q x))

-- in a later argument every unit but a quote mark, a backslash and the blank that ends it
abbrev pub is_taken : Bool → ℕ → Bool
is_taken q x = pick (is_quote x) false (pick (is_backslash x) false (flip (is_end q x)))
