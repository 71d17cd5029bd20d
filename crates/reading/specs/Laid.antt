-- The arguments of a line, laid out. Assumes nothing.
use Rattle.std.specs.Prelude.{ℕ, ◌≡◌, List, [], ◌∷◌, length}
use Rattle.std.proofs.lemmas.List.Edits.{sets}
use Rattle.rules.specs.Choice.{pick, is_empty}
use Rattle.rules.specs.Reading.{arguments, joined, spans_of}

-- the arguments of a line: of an empty one the executable name
unfoldable pub line_arguments : List ℕ → List ℕ → List (List ℕ)
line_arguments line executable = pick (is_empty line) (executable ∷ []) (arguments line)

-- Arguments are laid out: their texts at the front of the text, and start and length of each at the front of the table, as far as there is room.
pub record Laid (args : List (List ℕ)) (text text' spans spans' : List ℕ) (count units : ℕ) : Type 0 where
  pub counts : count ≡ length args
  pub measures : units ≡ length (joined args)
  pub stores : text' ≡ sets text 0 (joined args)
  pub tabulates : spans' ≡ sets spans 0 (spans_of args)
