-- The launch line cache after any calls. Assumes nothing.
-- "All this is said of a store made empty and changed only by these calls." (02, E3)
use Rattle.std.specs.Prelude.{ℕ, ◌+◌, ◌-◌, ◌*◌, ◌≤◌, ◌<◌, ◌≡◌, refl, Bool, true, false, List, [], ◌∷◌, ◌++◌, ltb, leb, length, drop, Result}
use Rattle.std.proofs.Common.{zero-le, arith, leb-false, ltb-false, ap, ◌∙◌, length-append, length-drop}
use Rattle.std.proofs.Math.Path.{subst⁻¹}
use Rattle.std.proofs.Math.Seq.{drop-append_seam}
use Rattle.rules.specs.declared.Refusal.{Refusal}
use Rattle.rules.specs.declared.Cached.{Cached}
use Rattle.rules.specs.Outcome.{Outcome, done, refused, refuse, over}
use Rattle.rules.specs.Key.{Launch, key_of, prepared}
use Rattle.rules.specs.Cache.{cache_places, CacheEntry, cache_entry, key_size, entry_uses, all_use, Standing, there, nowhere, standing, Served, stored}
use Rattle.rules.specs.Cache.{past_builder, unless_held, adding, storing, stored_in, Call, lookup, store, clear, left_by, left_by_all}
use Rattle.rules.specs.Store.{index_of, all_units, AllPrepared, Represents, StoredOver, Empties, Stores}
use Rattle.laws.specs.Entries.{used_within, index_length, units_length, none_use, use_last}
use Rattle.laws.specs.Prepared.{is_prepared}
use Rattle.laws.specs.Standing.{prepared_more}

-- an index and units after calls, the last of which stands in front: the store was made empty, and every call met its contract. A lookup changes nothing,
-- whatever it answers.
pub data After : List Call → List ℕ → List ℕ → Type 0 where
  after_make : {index index' : List ℕ} (units : List ℕ) → 2 + 6 * cache_places ≤ length index → Empties index index' → After [] index' units
  after_lookup : {calls : List Call} {index units : List ℕ} (fingerprint : ℕ) (lent : Launch) → After calls index units
      → After (lookup fingerprint lent ∷ calls) index units
  after_store : {calls : List Call} {index units index' units' : List ℕ} (fingerprint : ℕ) (lent : Launch) (r : Result Cached Refusal) → After calls index units
      → Stores cache_places fingerprint lent r index units index' units' → After (store fingerprint lent ∷ calls) index' units'
  after_clear : {calls : List Call} {index units index' : List ℕ} → After calls index units → Empties index index' → After (clear ∷ calls) index' units

-- the entries that the calls leave, for so many units lent
abbrev pub entries_after : List Call → List ℕ → List CacheEntry
entries_after calls units = left_by_all cache_places (length units) calls

-- ---- a storing

-- an entry that was added: a place and units were left for it, and the builder made its line
record Fitted (places room fingerprint : ℕ) (lent : Launch) (es : List CacheEntry) : Type 0 where
  left : length es < places
  fits : all_use es + entry_uses (cache_entry fingerprint (key_of lent)) ≤ room
  line : List ℕ
  built : prepared lent ≡ done line

-- a storing adds such an entry, or leaves the entries as they were
data Stored (places room fingerprint : ℕ) (lent : Launch) (es : List CacheEntry) (o : Outcome Served) : Type 0 where
  one_more : Fitted places room fingerprint lent es → stored_in o (cache_entry fingerprint (key_of lent)) es ≡ es ++ cache_entry fingerprint (key_of lent) ∷ []
      → Stored places room fingerprint lent es o
  as_before : stored_in o (cache_entry fingerprint (key_of lent)) es ≡ es → Stored places room fingerprint lent es o

storing_adds : (places room fingerprint : ℕ) (lent : Launch) (es : List CacheEntry) → all_use es ≤ room
    → Stored places room fingerprint lent es (storing places room fingerprint lent es)
unfolding storing adding
storing_adds places room fingerprint lent es u =
    go (prepared lent) refl (standing fingerprint (key_of lent) 0 es) (leb places (length es)) refl (ltb (room - all_use es) (entry_uses e)) refl
  where
    e : CacheEntry
    e = cache_entry fingerprint (key_of lent)

    go : (o : Outcome (List ℕ)) → prepared lent ≡ o → (t : Standing) (b : Bool) → leb places (length es) ≡ b → (d : Bool) → ltb (room - all_use es) (entry_uses e) ≡ d
        → Stored places room fingerprint lent es (past_builder o (unless_held t (refuse 3 b (refuse 4 d (done (stored (all_use es + key_size e.key) (length e.line)))))))
    go (refused number place) p t b l d f = as_before refl
    go (done line) p (there start units) b l d f = as_before refl
    go (done line) p nowhere true l d f = as_before refl
    go (done line) p nowhere false l true f = as_before refl
    go (done line) p nowhere false l false f =
        one_more
        (record {
          left = leb-false places (length es) l;
          fits = omega (arith, ltb-false (room - all_use es) (entry_uses e) f);
          line = line;
          built = p;
        })
        refl

-- ---- what is represented

-- what lies over memory lies over what it left
is_over : (lent after result : List ℕ) → after ≡ over lent result → after ≡ over after result
is_over lent after result e = e ∙ rw (e, drop-append_seam result (drop (length result) lent))

-- and takes no place from it, where it has that many
same_length : (lent after result : List ℕ) → after ≡ over lent result → length result ≤ length lent → length after ≡ length lent
same_length lent after result e h = ap length e ∙ rw (length-append, length-drop) (omega arith)

-- memory over which the words and units of entries were laid stands for them
record LaidOver (places : ℕ) (index units index' units' : List ℕ) (es : List CacheEntry) : Type 0 where
  stands : Represents places index' units' es
  same_index : length index' ≡ length index
  same_units : length units' ≡ length units

laid_over : (places : ℕ) {index units index' units' : List ℕ} (es : List CacheEntry) → StoredOver index units es index' units' → length es ≤ places
    → 2 + 6 * places ≤ length index → all_use es ≤ length units → AllPrepared es → LaidOver places index units index' units' es
laid_over places {index} {units} {index'} {units'} es s n h u p =
    record {
      stands = record { fits = n; words = is_over index index' (index_of es) s.words; texts = is_over units units' (all_units es) s.texts; lines = p };
      same_index = same_length index index' (index_of es) s.words (omega (arith, index_length es));
      same_units = same_length units units' (all_units es) s.texts (rw (units_length es) u);
    }

store_lays : (places fingerprint : ℕ) (lent : Launch) {index units index' units' : List ℕ} (es : List CacheEntry) → Represents places index units es
    → 2 + 6 * places ≤ length index → let o = storing places (length units) fingerprint lent es in
    StoredOver index units (stored_in o (cache_entry fingerprint (key_of lent)) es) index' units'
    → LaidOver places index units index' units' (stored_in o (cache_entry fingerprint (key_of lent)) es)
store_lays places fingerprint lent {index} {units} {index'} {units'} es r h s = go (storing_adds places (length units) fingerprint lent es (used_within r))
  where
    e : CacheEntry
    e = cache_entry fingerprint (key_of lent)

    o : Outcome Served
    o = storing places (length units) fingerprint lent es

    go : Stored places (length units) fingerprint lent es o → LaidOver places index units index' units' (stored_in o e es)
    go (as_before k) = rw k (laid_over places es (rw k at s) r.fits h (used_within r) r.lines)
    go (one_more f k) =
        let n : length (es ++ e ∷ []) ≤ places = omega (arith, length-append es (e ∷ []), f.left) in
        let u : all_use (es ++ e ∷ []) ≤ length units = rw (use_last es e) f.fits in
        rw k (laid_over places (es ++ e ∷ []) (rw k at s) n h u (prepared_more es e r.lines (is_prepared fingerprint lent f.line f.built)))

-- what is kept through all calls: an index with room for every entry, and memory that stands for the entries
record Kept (calls : List Call) (index units : List ℕ) : Type 0 where
  room : 2 + 6 * cache_places ≤ length index
  stands : Represents cache_places index units (entries_after calls units)

-- an index that was emptied stands for no entries, with any units
emptied : {index index' : List ℕ} (units : List ℕ) → 2 + 6 * cache_places ≤ length index → Empties index index'
    → (2 + 6 * cache_places ≤ length index') × Represents cache_places index' units []
unfolding all_units
emptied {index} {index'} units h e =
    let l = laid_over cache_places {units = units} [] (record { words = e.leaves; texts = refl }) zero-le h (omega (arith, none_use)) tt in
    (rw l.same_index h, l.stands)

kept : {calls : List Call} {index units : List ℕ} → After calls index units → Kept calls index units
unfolding left_by_all left_by
kept (after_make units h e) = let (n, r) = emptied units h e in record { room = n; stands = r }
kept (after_lookup fingerprint lent a) = record { room = (kept a).room; stands = (kept a).stands }
kept (after_clear {units = units} a e) = let (n, r) = emptied units (kept a).room e in record { room = n; stands = r }
kept (after_store {calls} {index} {units} {index'} {units'} fingerprint lent r a s) =
    let k = kept a in
    let l = store_lays cache_places fingerprint lent (entries_after calls units) k.stands k.room (s.leaves (entries_after calls units) k.stands) in
    record { room = rw l.same_index k.room; stands = subst⁻¹ (λ n. Represents cache_places index' units' (left_by_all cache_places n (store fingerprint lent ∷ calls))) l.same_units l.stands }

-- "The index of fingerprints must agree with the entries after any calls": after any calls the memory stands for the entries that the calls leave
pub represented : {calls : List Call} {index units : List ℕ} → After calls index units → Represents cache_places index units (entries_after calls units)
represented a = (kept a).stands

-- a storing lends the units on: as many as before
pub units_kept : {calls : List Call} {index units index' units' : List ℕ} → After calls index units → (fingerprint : ℕ) (lent : Launch) (r : Result Cached Refusal)
    → Stores cache_places fingerprint lent r index units index' units' → length units' ≡ length units
units_kept {calls} {index} {units} a fingerprint lent r s =
    let k = kept a in
    let es = entries_after calls units in
    (store_lays cache_places fingerprint lent es k.stands k.room (s.leaves es k.stands)).same_units
