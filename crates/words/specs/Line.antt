-- A line, taken apart by the row of a table that has its verb. Assumes nothing.
use Rattle.std.specs.Prelude.{ℕ, suc, ◌+◌, ◌-◌, ◌≤◌, ◌<◌, min, ◌≡◌, List, [], ◌∷◌, ltb, length, get_or, Option, Some, None, IfSome, option_map}
use Rattle.rules.specs.Choice.{pick, equal}
use Rattle.rules.specs.Record.{part}
use Rattle.words.specs.Word.{words_of, words_at}
use Rattle.fields.specs.Field.{Flat, follow, held_in, holding_said}
use Rattle.words.specs.Shape.{shape_at, shape_on}
use Rattle.fields.specs.declared.taking.Held.{Held}
use Rattle.words.specs.declared.lines.Line.{Line}

-- ---- words by their letters

-- words from the one with an index on, behind what there is; each letter but the last stands for a word that has to be there
unfoldable pub words_by : List ℕ → ℕ → Flat → List (List ℕ) → Option Flat
unfolding shape_at shape_on
words_by letters i flat [] = pick (ltb (i + 1) (length letters)) None (Some flat)
words_by letters i flat (word ∷ more) = follow (shape_on (shape_at letters i) flat word) (λ next. words_by letters (i + 1) next more)

-- nothing yet
abbrev pub none : Flat
none = record { numbers = []; text = [] }

-- ---- the rows of a table

-- the first word
abbrev pub verb_in : List ℕ → List ℕ
verb_in line = get_or (words_of line) 0 []

-- the second, in a row of a table
abbrev pub letters_in : List ℕ → List ℕ
letters_in row = get_or (words_of row) 1 []

-- the index of the first row whose verb is the word
unfoldable pub row_of : List (List ℕ) → List ℕ → Option ℕ
unfolding words_of equal
row_of [] word = None
row_of (row ∷ rows) word = pick (equal (verb_in row) word) (Some 0) (option_map suc (row_of rows word))

-- ---- a line

-- the row of a line, and what its words come to
pub record Asked : Type 0 where
  pub row : ℕ
  pub flat : Flat

-- it was taken
abbrev pub asked : ℕ → Flat → Option Asked
asked row flat = Some (record { row = row; flat = flat })

-- all words but the first
abbrev pub behind_verb : List (List ℕ) → List (List ℕ)
behind_verb [] = []
behind_verb (verb ∷ more) = more

-- what a line comes to by a table
unfoldable pub line_on : List (List ℕ) → List ℕ → Option Asked
unfolding words_of words_by row_of
line_on rows line =
    follow (row_of rows (verb_in line)) (λ row.
    follow (words_by (letters_in (get_or rows row [])) 0 none (behind_verb (words_of line))) (λ flat. asked row flat))

-- a line is at most 400,000 bytes long, and at most as long as what is lent to take it apart
abbrev pub longest_in : ℕ → ℕ → ℕ
longest_in text numbers = min 400000 (min text numbers)

-- ---- contracts

-- the word that starts at an index ends at r, and the words behind it start behind the space there
pub record Ends (line : List ℕ) (at r : ℕ) : Type 0 where
  pub behind : at ≤ r
  pub within : r ≤ length line
  pub splits : words_at line at ≡ part line at (r - at) ∷ words_at line (r + 1)

-- what is lent has room for a line of so many bytes, from an index on that is not its first
pub record Roomy (size at text numbers : ℕ) : Type 0 where
  pub few : size ≤ 400000
  pub begun : 0 < at
  pub texts : size ≤ text
  pub lists : size ≤ numbers

-- what is held lies within what is lent
abbrev pub holds_in : Option Held → ℕ → ℕ → Type 0
holds_in r text numbers = IfSome r (λ h. (h.units ≤ text) × (h.count ≤ numbers))

-- the words are held in front of the lent text and table
pub record Took (t : Option Flat) (r : Option Held) (text numbers : List ℕ) : Type 0 where
  pub says : holding_said r text numbers ≡ t
  pub within : holds_in r (length text) (length numbers)

-- what an answer says of a line
abbrev pub line_said : Option Line → List ℕ → List ℕ → Option Asked
line_said (Some line) text numbers = asked line.row (held_in line.held text numbers)
line_said None text numbers = None

-- what is held of a line lies within what is lent
abbrev pub line_in : Option Line → ℕ → ℕ → Type 0
line_in r text numbers = IfSome r (λ line. (line.held.units ≤ text) × (line.held.count ≤ numbers))

-- the line is held in front of the lent text and table
pub record Lined (t : Option Asked) (r : Option Line) (text numbers : List ℕ) : Type 0 where
  pub says : line_said r text numbers ≡ t
  pub within : line_in r (length text) (length numbers)
