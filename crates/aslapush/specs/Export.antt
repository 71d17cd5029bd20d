-- What an exported function promises: the same as the entry point under it, in numbers and lent arrays. Assumes nothing.
use Rattle.std.specs.Prelude.{ℕ, ◌≡◌, Bool, List, [], ◌∷◌, eqb, Result}
use Rattle.rules.specs.Choice.{pick, flip}
use Rattle.rules.specs.declared.Refusal.{Refusal}
use Rattle.rules.specs.declared.Cached.{Cached}
use Rattle.rules.specs.Outcome.{Outcome, done, refused, filled}
use Rattle.rules.specs.Record.{Entry}
use Rattle.reading.specs.declared.Span.{Span}
use Rattle.rules.specs.Answer.{Said, units_said, arguments_said, entries_said, outcome_texts, outcome_spans, outcome_entry_spans}
use Rattle.rules.specs.Key.{Launch}
use Rattle.rules.specs.Cache.{cache_places, Served, missed, hit, held, stored}
use Rattle.rules.specs.Store.{cached_said, LooksUp, Stores}

-- any number but 0 forces quotes
abbrev pub forces : ℕ → Bool
forces flag = flip (eqb flag 0)

-- the lent array afterwards: place, arguments or entries, units, 0
abbrev pub counts : Said → List ℕ
counts s = s.place ∷ s.arguments ∷ s.units ∷ 0 ∷ []

-- the number that is returned and the lent array say what is said
pub record Told (s : Said) (number : ℕ) (answer : List ℕ) : Type 0 where
  pub returns : number ≡ s.number
  pub fills : answer ≡ counts s

-- an exported function that writes units
pub record Wrote (o : Outcome (List ℕ)) (number : ℕ) (answer before after : List ℕ) : Type 0 where
  pub tells : Told (units_said o) number answer
  pub leaves : after ≡ filled before o

-- the exported reader
pub record Gave (o : Outcome (List (List ℕ))) (number : ℕ) (answer text text' spans spans' : List ℕ) : Type 0 where
  pub tells : Told (arguments_said o) number answer
  pub leaves : text' ≡ filled text (outcome_texts o)
  pub tabulates : spans' ≡ filled spans (outcome_spans o)

-- the exported reader of blocks
pub record Tabulated (o : Outcome (List Entry)) (number : ℕ) (answer spans spans' : List ℕ) : Type 0 where
  pub tells : Told (entries_said o) number answer
  pub tabulates : spans' ≡ filled spans (outcome_entry_spans o)

-- a span as the two numbers of a lent array
abbrev pub start_and_length : Span → List ℕ
start_and_length s = s.start ∷ s.len ∷ []

-- a truth as a number
abbrev pub as_number : Bool → ℕ
as_number b = pick b 1 0

-- ---- the launch line cache

-- the state of an answer of the cache: missed, hit, held or stored
abbrev pub state_of : Served → ℕ
state_of missed = 0
state_of (hit start units) = 1
state_of (held start units) = 2
state_of (stored start units) = 3

-- where the line starts in the units of the store
abbrev pub start_of : Served → ℕ
start_of missed = 0
start_of (hit start units) = start
start_of (held start units) = start
start_of (stored start units) = start

-- how many units it has
abbrev pub size_of : Served → ℕ
size_of missed = 0
size_of (hit start units) = units
size_of (held start units) = units
size_of (stored start units) = units

-- the number that is returned
abbrev pub served_number : Outcome Served → ℕ
served_number (done s) = 0
served_number (refused number place) = number

-- the lent array afterwards: place, state, start, units, 0
abbrev pub served_numbers : Outcome Served → List ℕ
served_numbers (done s) = 0 ∷ state_of s ∷ start_of s ∷ size_of s ∷ 0 ∷ []
served_numbers (refused number place) = place ∷ 0 ∷ 0 ∷ 0 ∷ 0 ∷ []

-- the number that is returned and the lent array say what a call of the cache comes to
pub record CacheTold (o : Outcome Served) (number : ℕ) (answer : List ℕ) : Type 0 where
  pub returns : number ≡ served_number o
  pub fills : answer ≡ served_numbers o

-- the exported lookup: they say what a lookup answers
pub record LookupTold (index units : List ℕ) (fingerprint : ℕ) (lent : Launch) (number : ℕ) (answer : List ℕ) : Type 0 where
  pub cached : Result Cached Refusal
  pub looks : LooksUp cache_places index units fingerprint lent cached
  pub tells : CacheTold (cached_said cached) number answer

-- the exported storing: they say what a storing answers, which leaves this in index and units
pub record StoreTold (fingerprint : ℕ) (lent : Launch) (number : ℕ) (answer index units index' units' : List ℕ) : Type 0 where
  pub cached : Result Cached Refusal
  pub stores : Stores cache_places fingerprint lent cached index units index' units'
  pub tells : CacheTold (cached_said cached) number answer
