-- An entry found in lent memory of any content, and what is found where the memory stands for entries. Assumes nothing.
use Rattle.std.specs.Prelude.{ℕ, ◌+◌, ◌-◌, ◌≤◌, min, ◌≡◌, Bool, List, ◌++◌, eqb, length, get_or, Option, Some, None, Result, Ok}
use Rattle.rules.specs.Choice.{both, equal}
use Rattle.rules.specs.Record.{Argument, part}
use Rattle.rules.specs.Key.{Launch, key_of}
use Rattle.rules.specs.Cache.{CacheEntry, Standing, there, nowhere, standing}
use Rattle.rules.specs.Store.{code_of, flag_word, Represents}
use Rattle.rules.specs.declared.Refusal.{Refusal}
use Rattle.rules.specs.declared.Cached.{Cached}
use Rattle.finding.specs.declared.Place.{Place}

-- the entry whose words stand at a place of the index has that fingerprint, that flag, a program of that length, and units of its key that are those of
-- the program and the arguments
unfoldable pub answers_at : List ℕ → ℕ → List ℕ → ℕ → Bool → List ℕ → List Argument → Bool
unfolding equal code_of
answers_at index at units fingerprint force program args =
    both (eqb (get_or index at 0) fingerprint)
    (both (eqb (get_or index (at + 1) 0) (flag_word force))
    (both (eqb (get_or index (at + 2) 0) (length program))
    (equal (part units (get_or index (at + 3) 0) (get_or index (at + 4) 0)) (program ++ code_of args))))

-- where the words at a place say that the line stands, clipped to so many units
abbrev pub line_at : List ℕ → ℕ → ℕ → Place
line_at index at room =
    let start = min (get_or index (at + 3) 0) room in
    let line = start + min (get_or index (at + 4) 0) (room - start) in
    record { start = line; units = min (get_or index (at + 5) 0) (room - line) }

-- what an answer says
abbrev pub found_said : Option Place → Standing
found_said (Some p) = there p.start p.units
found_said None = nowhere

-- what a lookup answers to it
abbrev pub hit_of : Option Place → Result Cached Refusal
hit_of (Some p) = Ok (Cached.Hit p.start p.units)
hit_of None = Ok Cached.Missed

-- what is found lies within so many units
abbrev pub Lies : ℕ → Option Place → Type 0
Lies room (Some p) = p.start + p.units ≤ room
Lies room None = Unit

-- what is found is the standing of the key among the entries; whatever the memory holds, it lies within the units
pub record FindsLine (places : ℕ) (index units : List ℕ) (fingerprint : ℕ) (lent : Launch) (r : Option Place) : Type 0 where
  pub says : (es : List CacheEntry) → Represents places index units es → found_said r ≡ standing fingerprint (key_of lent) 0 es
  pub lies : Lies (length units) r
