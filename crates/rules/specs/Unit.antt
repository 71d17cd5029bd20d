-- The units that the rules name, the tests on one unit, and its class. Assumes nothing.
-- "All text is UTF-16 code units, numbers from 0 to 65,535. Unpaired surrogates are ordinary units and are kept."
use Rattle.std.specs.Prelude.{ℕ, Bool, List, [], ◌∷◌, eqb, leb, ltb}
use Prim.Native.Char.{code}
use Prim.Native.String.{String, [] as none, ◌∷◌ as ◌then◌}
use Rattle.rules.specs.Choice.{pick, either, both, flip, any}

-- the units of a quoted text, whose characters are one unit each
unfoldable pub units : String → List ℕ
units none = []
units (c then s) = code c ∷ units s

-- ---- units by name

-- NUL
abbrev pub nul : ℕ
nul = 0

-- tab (9)
abbrev pub tab : ℕ
tab = 9

-- LF (10)
abbrev pub line_feed : ℕ
line_feed = 10

-- CR (13)
abbrev pub carriage_return : ℕ
carriage_return = 13

-- space (32)
abbrev pub space : ℕ
space = 32

-- "Quote" is unit 34
abbrev pub quote : ℕ
quote = 34

-- `%` (37)
abbrev pub percent : ℕ
percent = 37

-- `=` (61)
abbrev pub equals : ℕ
equals = 61

-- "backslash" 92
abbrev pub backslash : ℕ
backslash = 92

-- ---- tests on one unit

-- NUL
abbrev pub is_nul : ℕ → Bool
is_nul x = eqb x nul

-- "CR (13) or LF (10)"
abbrev pub is_line_break : ℕ → Bool
is_line_break x = either (eqb x carriage_return) (eqb x line_feed)

-- "blank" is space (32) or tab (9)
abbrev pub is_blank : ℕ → Bool
is_blank x = either (eqb x space) (eqb x tab)

-- a quote mark
abbrev pub is_quote : ℕ → Bool
is_quote x = eqb x quote

-- a `%`
abbrev pub is_percent : ℕ → Bool
is_percent x = eqb x percent

-- a backslash
abbrev pub is_backslash : ℕ → Bool
is_backslash x = eqb x backslash

-- `=`
abbrev pub is_equals : ℕ → Bool
is_equals x = eqb x equals

-- from the least to the most, both with it
abbrev pub within : ℕ → ℕ → ℕ → Bool
within least most x = both (leb least x) (leb x most)

-- a digit, 0 to 9
abbrev pub is_digit : ℕ → Bool
is_digit x = within 48 57 x

-- a letter, A to Z or a to z
abbrev pub is_letter : ℕ → Bool
is_letter x = either (within 65 90 x) (within 97 122 x)

-- "a forcing unit: below 128 and neither letter, digit nor one of `#$*+-./:?@\_`; or from 128 to 159"
unfoldable pub is_forcing : ℕ → Bool
unfolding units
is_forcing x =
    either
    (both (ltb x 128) (flip (either (is_letter x) (either (is_digit x) (any (eqb x) (units "#$*+-./:?@\\_"))))))
    (within 128 159 x)

-- ---- classes

-- the class of a unit, by the table of unit classes: NUL; CR, LF; space, tab; quote; backslash; `%`; other forcing units; the rest
unfoldable pub class_of : ℕ → ℕ
unfolding is_forcing
class_of x =
    pick (is_nul x) 1
    (pick (is_line_break x) 2
    (pick (is_blank x) 3 (pick (is_quote x) 4 (pick (is_backslash x) 5 (pick (is_percent x) 6 (pick (is_forcing x) 7 0))))))
