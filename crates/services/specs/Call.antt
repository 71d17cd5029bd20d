-- What a call to a store asks for, and what it is answered. Assumes nothing.
use Rattle.std.specs.Prelude.{ℕ, ◌+◌, ◌*◌, List, eqb, get_or, drop, Result, Option, Some, None}
use Rattle.rules.specs.declared.Refusal.{Refusal}
use Rattle.rules.specs.declared.Cached.{Cached}
use Rattle.rules.specs.Record.{part}
use Rattle.rules.specs.Key.{Launch, launch}
use Rattle.rules.specs.Store.{cached_said}
use Rattle.replies.specs.declared.answers.Answer.{Answer}
use Rattle.sayings.specs.Told.{Serves}

-- FP of `look FP F PROGRAM [K:TEXT ..]` and of `store ..`, whose low half stands in front
abbrev pub fingerprint_in : List ℕ → ℕ
fingerprint_in numbers = get_or numbers 1 0 * 4294967296 + get_or numbers 0 0

-- what stands behind it
abbrev pub launch_in : List ℕ → List ℕ → Launch
launch_in text numbers = launch (eqb (get_or numbers 2 0) 1) (part text (get_or numbers 3 0) (get_or numbers 4 0)) (drop 5 numbers) text

-- over how many of the lent units the store was made, or 0 where none was
abbrev pub units_of : Option ℕ → ℕ
units_of (Some units) = units
units_of None = 0

-- what is answered is shown of an answer of the cache of which this is promised
pub record Shows (promised : Result Cached Refusal → Type 0) (r : Answer) (spans spans' : List ℕ) : Type 0 where
  pub cached : Result Cached Refusal
  pub kept : promised cached
  pub serves : Serves (cached_said cached) r spans spans'
