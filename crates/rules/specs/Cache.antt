-- The launch line cache as a list of entries: what each call comes to, and the entries that it leaves. Assumes nothing.
-- Each definition stands under its sentence of 02, E3.
use Rattle.std.specs.Prelude.{ℕ, ◌+◌, ◌-◌, ◌*◌, Bool, List, [], ◌∷◌, ◌++◌, eqb, ltb, leb, length}
use Rattle.rules.specs.Choice.{pick, both}
use Rattle.rules.specs.Outcome.{Outcome, done, refused, refuse, unless}
use Rattle.rules.specs.Record.{Argument, argument_fault}
use Rattle.rules.specs.Building.{line, command_line}
use Rattle.rules.specs.Key.{Launch, Key, key_of, same_key, prepared, launch_line}

-- "Hold up to 64 prepared lines"
unfoldable pub cache_places : ℕ
cache_places = 64

-- ---- entries

-- a fingerprint, a key and a line
pub record CacheEntry : Type 0 where
  pub fingerprint : ℕ
  pub key : Key
  pub line : List ℕ

-- "one entry, with that fingerprint, that key and the builder's line"
abbrev pub cache_entry : ℕ → Key → CacheEntry
cache_entry fingerprint key = record { fingerprint = fingerprint; key = key; line = launch_line key }

-- "an entry has that fingerprint and an equal key"
abbrev pub answers_to : ℕ → Key → CacheEntry → Bool
answers_to fingerprint key e = both (eqb e.fingerprint fingerprint) (same_key e.key key)

-- ---- units

-- the units of argument texts
unfoldable pub text_units : List Argument → ℕ
text_units [] = 0
text_units (a ∷ more) = length a.content + text_units more

-- the units of a key: those "of program, argument texts .., and two more for each argument"
unfoldable pub key_size : Key → ℕ
unfolding text_units
key_size k = length k.program + text_units k.arguments + 2 * length k.arguments

-- "An entry uses the units of program, argument texts and line, and two more for each argument."
unfoldable pub entry_uses : CacheEntry → ℕ
unfolding key_size
entry_uses e = key_size e.key + length e.line

-- the units that entries use
unfoldable pub all_use : List CacheEntry → ℕ
unfolding entry_uses
all_use [] = 0
all_use (e ∷ es) = entry_uses e + all_use es

-- ---- where a line stands

-- a part of the store's units, from a start on and so long; or no part
pub data Standing : Type 0 where
  there : ℕ → ℕ → Standing
  nowhere : Standing

-- the line of the first entry with that fingerprint and an equal key. The units of the first entry start at the place given; an entry's line stands behind
-- its key, and the next entry behind the line.
unfoldable pub standing : ℕ → Key → ℕ → List CacheEntry → Standing
unfolding same_key key_size entry_uses
standing fingerprint key from [] = nowhere
standing fingerprint key from (e ∷ es) =
    let here = there (from + key_size e.key) (length e.line) in
    let next = standing fingerprint key (from + entry_uses e) es in
    pick (answers_to fingerprint key e) here next

-- ---- what a call comes to

-- no line is held; or where the line stands that was hit, was held before or is stored now
pub data Served : Type 0 where
  missed : Served
  hit : ℕ → ℕ → Served
  held : ℕ → ℕ → Served
  stored : ℕ → ℕ → Served

-- "A lookup hits exactly if an entry has that fingerprint and an equal key, and hands back the stored line as a part of the store."
abbrev pub hit_at : Standing → Served
hit_at (there start units) = hit start units
hit_at nowhere = missed

-- "A lookup gives refusal 1 as the builder does."
unfoldable pub looking : ℕ → Launch → List CacheEntry → Outcome Served
unfolding argument_fault standing
looking fingerprint lent es = unless (argument_fault lent.text lent.records) (done (hit_at (standing fingerprint (key_of lent) 0 es)))

-- "the builder's refusals save 4 pass through first"
abbrev pub past_builder : Outcome (List ℕ) → Outcome Served → Outcome Served
past_builder (done whole) more = more
past_builder (refused number place) more = refused number place

-- "Storing what a lookup would hit changes nothing and says so."
abbrev pub unless_held : Standing → Outcome Served → Outcome Served
unless_held (there start units) more = done (held start units)
unless_held nowhere more = more

-- "Then 3 if all entries are used, then 4 exactly if that is more than the units left." Else the entry stands behind the others.
unfoldable pub adding : ℕ → ℕ → CacheEntry → List CacheEntry → Outcome Served
unfolding key_size entry_uses all_use
adding places room e es =
    refuse 3 (leb places (length es))
    (refuse 4 (ltb (room - all_use es) (entry_uses e))
    (done (stored (all_use es + key_size e.key) (length e.line))))

-- the builder's refusals save 4, held, 3, 4: for a store of so many places over so many units
unfoldable pub storing : ℕ → ℕ → ℕ → Launch → List CacheEntry → Outcome Served
unfolding command_line line standing adding
storing places room fingerprint lent es =
    past_builder (prepared lent)
    (unless_held (standing fingerprint (key_of lent) 0 es)
    (adding places room (cache_entry fingerprint (key_of lent)) es))

-- ---- what a call leaves

-- "Any other storing that isn't refused adds one entry .. and leaves every other entry's key and line as they were."
abbrev pub stored_in : Outcome Served → CacheEntry → List CacheEntry → List CacheEntry
stored_in (done missed) e es = es
stored_in (done (hit start units)) e es = es
stored_in (done (held start units)) e es = es
stored_in (done (stored start units)) e es = es ++ e ∷ []
stored_in (refused number place) e es = es

-- a call on a store that was made empty: a lookup, a storing, or clearing. Making one begins anew, with no entries.
pub data Call : Type 0 where
  lookup : ℕ → Launch → Call
  store : ℕ → Launch → Call
  clear : Call

-- the entries that a call leaves. "The only removal is clearing everything."
unfoldable pub left_by : ℕ → ℕ → Call → List CacheEntry → List CacheEntry
unfolding storing line
left_by places room (lookup fingerprint lent) es = es
left_by places room (store fingerprint lent) es = stored_in (storing places room fingerprint lent es) (cache_entry fingerprint (key_of lent)) es
left_by places room clear es = []

-- the entries that calls leave, the last of which stands in front, on "a store made empty and changed only by these calls"
unfoldable pub left_by_all : ℕ → ℕ → List Call → List CacheEntry
unfolding left_by
left_by_all places room [] = []
left_by_all places room (call ∷ before) = left_by places room call (left_by_all places room before)
