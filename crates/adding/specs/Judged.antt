-- One argument judged: what its record and its units make of the units so far. Assumes nothing.
use Rattle.std.specs.Prelude.{ℕ, ◌+◌, ◌*◌, Bool, List, length, Result, Ok, Err}
use Rattle.rules.specs.declared.Arg.{Arg}
use Rattle.rules.specs.declared.Refusal.{Refusal}
use Rattle.rules.specs.Choice.{pick, both, any}
use Rattle.rules.specs.Unit.{is_nul, is_line_break}
use Rattle.rules.specs.Record.{Argument, is_regular}
use Rattle.records.specs.Records.{is_wrong}
use Rattle.adding.specs.Limits.{counted}

-- its record: refused by 1
abbrev pub record_judged : List ℕ → ℕ → ℕ → Arg → Result ℕ Refusal
record_judged text units place a = pick (is_wrong text a) (Err (Refusal.Record place)) (Ok units)

-- a line break where none may be: in a regular argument of a batch line
abbrev pub breaks_line : Bool → Argument → Bool
breaks_line batch a = both batch (both (is_regular a.kind) (any is_line_break a.content))

-- the most units that an argument of n takes, with the space before it: 2n + 3, in a batch line 8n + 3
abbrev pub most_units : Bool → ℕ → ℕ
most_units batch n = pick batch (8 * n + 3) (2 * n + 3)

-- its units: refused by 6, then by 5; else the most that the argument can take is counted
abbrev pub units_judged : Bool → ℕ → ℕ → Argument → Result ℕ Refusal
units_judged batch units place a =
    let nul = pick (any is_nul a.content) (Err (Refusal.Nul place)) (Ok (counted units (most_units batch (length a.content)))) in
    pick (breaks_line batch a) (Err (Refusal.LineBreak place)) nul
