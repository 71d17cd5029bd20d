-- How the entries of the launch line cache lie in lent memory, and what its calls promise. Assumes nothing.
use Rattle.std.specs.Prelude.{ℕ, ◌+◌, ◌≤◌, ◌≡◌, Bool, true, false, List, [], ◌∷◌, ◌++◌, length, Result, Ok, Err}
use Rattle.rules.specs.declared.Refusal.{Refusal}
use Rattle.rules.specs.declared.Cached.{Cached}
use Rattle.rules.specs.Choice.{pick}
use Rattle.rules.specs.Outcome.{Outcome, done, refused, over}
use Rattle.rules.specs.Record.{Argument, arguments_of}
use Rattle.rules.specs.Answer.{refusal_number, refusal_place}
use Rattle.rules.specs.Key.{Launch, launch, Key, key_of, prepared}
use Rattle.rules.specs.Cache.{CacheEntry, cache_entry, key_size, entry_uses, all_use, Served, missed, hit, held, stored, looking, storing, stored_in}

-- ---- a key as units

-- an argument: its kind, its length, its text
abbrev pub argument_code : Argument → List ℕ
argument_code a = a.kind ∷ length a.content ∷ a.content

-- arguments one after another
unfoldable pub code_of : List Argument → List ℕ
code_of [] = []
code_of (a ∷ more) = argument_code a ++ code_of more

-- the program, then the arguments; the flag is no unit
unfoldable pub key_units : Key → List ℕ
unfolding code_of
key_units k = k.program ++ code_of k.arguments

-- ---- entries as words and units

-- the flag as a word
abbrev pub flag_word : Bool → ℕ
flag_word force = pick force 1 0

-- an entry's six words: its fingerprint, the flag, how many units its program has, where its units start, how many its key has and how many its line
unfoldable pub entry_words : ℕ → CacheEntry → List ℕ
unfolding key_size
entry_words start e = e.fingerprint ∷ flag_word e.key.force ∷ length e.key.program ∷ start ∷ key_size e.key ∷ length e.line ∷ []

-- the words of entries, the first of which has the start given
unfoldable pub all_words : ℕ → List CacheEntry → List ℕ
unfolding entry_words entry_uses
all_words start [] = []
all_words start (e ∷ es) = entry_words start e ++ all_words (start + entry_uses e) es

-- the units of entries, each a key and its line, without holes
unfoldable pub all_units : List CacheEntry → List ℕ
unfolding key_units
all_units [] = []
all_units (e ∷ es) = (key_units e.key ++ e.line) ++ all_units es

-- an index: how many entries there are, how many units they use, and their words
unfoldable pub index_of : List CacheEntry → List ℕ
unfolding all_use all_words
index_of es = length es ∷ all_use es ∷ all_words 0 es

-- the line of an entry is the builder's, for records and a text that name just the arguments of its key
pub record Prepared (e : CacheEntry) : Type 0 where
  pub records : List ℕ
  pub text : List ℕ
  pub named : arguments_of text records ≡ e.key.arguments
  pub built : prepared (launch e.key.force e.key.program records text) ≡ done e.line

-- so is that of every entry
abbrev pub AllPrepared : List CacheEntry → Type 0
AllPrepared [] = Unit
AllPrepared (e ∷ es) = Prepared e × AllPrepared es

-- lent memory stands for entries: there are no more than places, their index lies over the lent index and their units over the lent units,
-- and the builder made all their lines
pub record Represents (places : ℕ) (index units : List ℕ) (es : List CacheEntry) : Type 0 where
  pub fits : length es ≤ places
  pub words : index ≡ over index (index_of es)
  pub texts : units ≡ over units (all_units es)
  pub lines : AllPrepared es

-- ---- what the calls promise

-- what an answer says
abbrev pub cached_said : Result Cached Refusal → Outcome Served
cached_said (Ok Cached.Missed) = done missed
cached_said (Ok (Cached.Hit start units)) = done (hit start units)
cached_said (Ok (Cached.Held start units)) = done (held start units)
cached_said (Ok (Cached.Stored start units)) = done (stored start units)
cached_said (Err r) = refused (refusal_number r) (refusal_place r)

-- an entry was added
abbrev pub adds : Outcome Served → Bool
adds (done missed) = false
adds (done (hit start units)) = false
adds (done (held start units)) = false
adds (done (stored start units)) = true
adds (refused number place) = false

-- the line that an answer hands back lies within so many units
abbrev pub LiesIn : ℕ → Result Cached Refusal → Type 0
LiesIn room (Ok Cached.Missed) = Unit
LiesIn room (Ok (Cached.Hit start units)) = start + units ≤ room
LiesIn room (Ok (Cached.Held start units)) = start + units ≤ room
LiesIn room (Ok (Cached.Stored start units)) = start + units ≤ room
LiesIn room (Err r) = Unit

-- making and clearing: the index of no entries lies over what the index held
pub record Empties (index index' : List ℕ) : Type 0 where
  pub leaves : index' ≡ over index (index_of [])

-- a lookup says what looking up in the entries comes to; whatever the memory holds, a line that it hands back lies within the units
pub record LooksUp (places : ℕ) (index units : List ℕ) (fingerprint : ℕ) (lent : Launch) (r : Result Cached Refusal) : Type 0 where
  pub says : (es : List CacheEntry) → Represents places index units es → cached_said r ≡ looking fingerprint lent es
  pub lies : LiesIn (length units) r

-- what a storing leaves of an index and of units that stand for entries: those of the entries afterwards lie over them
pub record StoredOver (index units : List ℕ) (es : List CacheEntry) (index' units' : List ℕ) : Type 0 where
  pub words : index' ≡ over index (index_of es)
  pub texts : units' ≡ over units (all_units es)

-- a storing says what storing into the entries comes to, and leaves what they are then; whatever the memory holds, it changes nothing where it adds no entry,
-- and a line that it hands back lies within the units
pub record Stores (places : ℕ) (fingerprint : ℕ) (lent : Launch) (r : Result Cached Refusal) (index units index' units' : List ℕ) : Type 0 where
  pub says : (es : List CacheEntry) → Represents places index units es → cached_said r ≡ storing places (length units) fingerprint lent es
  pub leaves : (es : List CacheEntry) → Represents places index units es
      → StoredOver index units (stored_in (storing places (length units) fingerprint lent es) (cache_entry fingerprint (key_of lent)) es) index' units'
  pub keeps : adds (cached_said r) ≡ false → (index' ≡ index) × (units' ≡ units)
  pub lies : LiesIn (length units) r
