-- The key of a prepared line: what two calls have in common that may share it. Assumes nothing.
-- "The key is the program, the force flag and every argument's kind and text, compared by content." (02, E3)
use Rattle.std.specs.Prelude.{ℕ, Bool, true, false, List, [], ◌∷◌, eqb}
use Rattle.rules.specs.Choice.{both, flip, equal}
use Rattle.rules.specs.Outcome.{Outcome}
use Rattle.rules.specs.Record.{Argument, arguments_of}
use Rattle.rules.specs.Building.{line, line_limit, command_line}

-- what a caller lends for a line: force flag, program, argument records, and the text that they name
pub record Launch : Type 0 where
  pub force : Bool
  pub program : List ℕ
  pub records : List ℕ
  pub text : List ℕ

-- these four
abbrev pub launch : Bool → List ℕ → List ℕ → List ℕ → Launch
launch force program records text = record { force = force; program = program; records = records; text = text }

-- "the program, the force flag and every argument's kind and text"
pub record Key : Type 0 where
  pub force : Bool
  pub program : List ℕ
  pub arguments : List Argument

-- the key of what is lent: an argument counts by its content, not by its place in the text
abbrev pub key_of : Launch → Key
key_of lent = record { force = lent.force; program = lent.program; arguments = arguments_of lent.text lent.records }

-- ---- "compared by content"

-- two flags are the same
abbrev pub same_flag : Bool → Bool → Bool
same_flag true b = b
same_flag false b = flip b

-- two arguments have the same kind and the same text
abbrev pub same_argument : Argument → Argument → Bool
same_argument a b = both (eqb a.kind b.kind) (equal a.content b.content)

-- as many arguments, one by one the same
unfoldable pub same_arguments : List Argument → List Argument → Bool
unfolding equal
same_arguments [] [] = true
same_arguments [] (b ∷ bs) = false
same_arguments (a ∷ more) [] = false
same_arguments (a ∷ more) (b ∷ bs) = both (same_argument a b) (same_arguments more bs)

-- two keys are equal
unfoldable pub same_key : Key → Key → Bool
unfolding equal same_arguments
same_key k j = both (same_flag k.force j.force) (both (equal k.program j.program) (same_arguments k.arguments j.arguments))

-- ---- the builder's line

-- what the builder makes of it where there is room enough: its line, or one of its "refusals save 4"
abbrev pub prepared : Launch → Outcome (List ℕ)
prepared lent = command_line lent.force lent.program lent.records lent.text line_limit

-- the line of a key, by the rule of ordinary lines
abbrev pub launch_line : Key → List ℕ
launch_line k = line k.force k.program k.arguments
