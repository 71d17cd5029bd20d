-- One entry more: its parts, and what adding it comes to. Assumes nothing.
use Rattle.std.specs.Prelude.{ℕ, ◌+◌, ◌*◌, ◌≡◌, Bool, false, List, [], ◌∷◌, eqb, length, Result}
use Rattle.std.proofs.lemmas.List.Edits.{sets}
use Rattle.rules.specs.declared.Refusal.{Refusal}
use Rattle.rules.specs.declared.Refusal.TheVariants.{Places, Room}
use Rattle.rules.specs.declared.Cached.{Cached}
use Rattle.rules.specs.Choice.{pick}
use Rattle.rules.specs.Outcome.{Outcome}
use Rattle.rules.specs.Answer.{refusal_number}
use Rattle.rules.specs.Building.{line, command_line}
use Rattle.rules.specs.Key.{Launch, key_of, prepared}
use Rattle.rules.specs.Cache.{CacheEntry, cache_entry, Served, past_builder, adding, stored_in}
use Rattle.rules.specs.Store.{Represents, StoredOver, cached_said, adds, LiesIn}

-- a line that has no room, which is 4, is refused by 3 where all entries are used
abbrev pub refusal_for : Bool → Refusal → Refusal
refusal_for full r = pick (eqb (refusal_number r) 4) (pick full Places Room) r

-- the words of one entry more behind those of so many others, then the number of entries and of the units that they use
pub record EntryPut (count used : ℕ) (words : List ℕ) (all : ℕ) (index index' : List ℕ) : Type 0 where
  pub puts : index' ≡ sets (sets index (2 + 6 * count) words) 0 ((count + 1) ∷ all ∷ [])

-- what storing a key comes to that is not held
unfoldable pub adding_new : ℕ → ℕ → ℕ → Launch → List CacheEntry → Outcome Served
unfolding command_line line adding
adding_new places room fingerprint lent es = past_builder (prepared lent) (adding places room (cache_entry fingerprint (key_of lent)) es)

-- it says so, and leaves the entries afterwards; whatever the memory holds, it changes nothing where it adds none, and its line lies within the units
pub record Adds (places : ℕ) (fingerprint : ℕ) (lent : Launch) (r : Result Cached Refusal) (index units index' units' : List ℕ) : Type 0 where
  pub says : (es : List CacheEntry) → Represents places index units es → cached_said r ≡ adding_new places (length units) fingerprint lent es
  pub leaves : (es : List CacheEntry) → Represents places index units es
      → StoredOver index units (stored_in (adding_new places (length units) fingerprint lent es) (cache_entry fingerprint (key_of lent)) es) index' units'
  pub keeps : adds (cached_said r) ≡ false → (index' ≡ index) × (units' ≡ units)
  pub lies : LiesIn (length units) r
