-- The environment block. Assumes nothing.
use Rattle.std.specs.Prelude.{ℕ, List, [], ◌∷◌, ◌++◌}
use Rattle.rules.specs.Choice.{any}
use Rattle.rules.specs.Unit.{is_nul, nul, equals}
use Rattle.rules.specs.Outcome.{Outcome, Finding, sound, wrong_if, fault_from, first_fault, unless, limited}
use Rattle.rules.specs.Record.{Entry, entry_fault, entries_of}

-- the most units of a block: "or a block more than 65,535"
unfoldable pub block_limit : ℕ
block_limit = 65535

-- "Each is key, `=`, value, NUL"; "`=` in a key is written as it is"
unfoldable pub entry_units : List Entry → List ℕ
entry_units [] = []
entry_units (e ∷ more) = e.key ++ equals ∷ e.value ++ nul ∷ entry_units more

-- "one NUL follows the last. No entries: exactly two NULs."
unfoldable pub block : List Entry → List ℕ
unfolding entry_units
block [] = nul ∷ nul ∷ []
block (e ∷ more) = entry_units (e ∷ more) ++ nul ∷ []

-- 5: NUL in a key or value; "key before value"
abbrev pub entry_nul_finding : Entry → Finding
entry_nul_finding e = wrong_if 5 (any is_nul e.key) (wrong_if 5 (any is_nul e.value) sound)

-- "Environment entries: 1 over all; then entry by entry, key before value, 5; then 2; then 4."
unfoldable pub environment_block : List ℕ → List ℕ → ℕ → Outcome (List ℕ)
unfolding entry_fault entries_of fault_from block block_limit
environment_block records text room =
    let entries = entries_of text records in
    unless (entry_fault text records) (unless (first_fault entry_nul_finding entries) (limited block_limit room (block entries)))
