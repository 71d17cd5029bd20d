-- What a lookup and a storing say, from what their parts say. Assumes nothing.
use Rattle.std.specs.Prelude.{Option, Some, None, Result, Ok, Err}
use Prim.Native.Nat.{ℕ, ◌≤◌}
use native.Mathlib.Omega.{arith}
use mathlib.Core.Path.{◌≡◌, refl, sym, ◌∙◌}
use mathlib.Core.List.{List, [], ◌∷◌}
use lib.ListN.{length, set}
use Rattle.rules.specs.declared.Refusal.{Refusal}
use Rattle.rules.specs.declared.Cached.{Cached}
use Rattle.rules.specs.Answer.{refusal_number, refusal_place}
use Rattle.rules.specs.Outcome.{Outcome, faultless, fault}
use Rattle.rules.specs.Record.{argument_fault}
use Rattle.rules.specs.Key.{Launch, key_of}
use Rattle.rules.specs.Cache.{CacheEntry, cache_entry, all_use, Served, nowhere, standing, looking, storing, stored_in}
use Rattle.rules.specs.Store.{all_words, index_of, Represents, Empties, LooksUp, StoredOver, Stores}
use Rattle.laws.specs.Prepared.{fault_first}
use Rattle.laws.specs.Standing.{stands_built}
use Rattle.finding.specs.declared.Place.{Place}
use Rattle.finding.specs.Found.{hit_of, FindsLine}
use Rattle.storing.specs.Added.{adding_new, Adds}

-- two zeros in front: no entries
pub emptied : (index : List ℕ) → 2 ≤ length index → Empties index (set (set index 0 0) 1 0)
unfolding index_of all_words all_use
emptied [] h = absurd (omega arith)
emptied (x ∷ []) h = absurd (omega arith)
emptied (x ∷ y ∷ index) h = record { leaves = refl }

-- where a key stands nowhere, storing is adding
not_standing : (places room fingerprint : ℕ) (lent : Launch) (es : List CacheEntry) → standing fingerprint (key_of lent) 0 es ≡ nowhere
    → storing places room fingerprint lent es ≡ adding_new places room fingerprint lent es
unfolding storing adding_new
not_standing places room fingerprint lent es e = rw e

module _ {places : ℕ} {index units : List ℕ} (fingerprint : ℕ) (lent : Launch) where
  -- ---- a lookup

  -- the records are at fault
  pub looked_refused : (refusal : Refusal) → fault (refusal_number refusal) (refusal_place refusal) ≡ argument_fault lent.text lent.records
      → LooksUp places index units fingerprint lent (Err refusal)
  unfolding looking
  looked_refused refusal e = record { says = λ es r. rw (← e); lies = tt }

  -- they are sound
  pub looked_found : (f : Option Place) → faultless ≡ argument_fault lent.text lent.records → FindsLine places index units fingerprint lent f
      → LooksUp places index units fingerprint lent (hit_of f)
  unfolding looking
  looked_found (Some p) e l = record { says = λ es h. rw (← e, ← l.says es h); lies = l.lies }
  looked_found None e l = record { says = λ es h. rw (← e, ← l.says es h); lies = tt }

  -- ---- a storing

  -- where no entry is added, nothing has changed
  unchanged : (es : List CacheEntry) → Represents places index units es → (o : Outcome Served) → stored_in o (cache_entry fingerprint (key_of lent)) es ≡ es
      → StoredOver index units (stored_in o (cache_entry fingerprint (key_of lent)) es) index units
  unchanged es r o e = rw e (record { words = r.words; texts = r.texts })

  -- what the records are at fault for, the builder refuses
  pub stored_refused : (refusal : Refusal) → fault (refusal_number refusal) (refusal_place refusal) ≡ argument_fault lent.text lent.records
      → Stores places fingerprint lent (Err refusal) index units index units
  unfolding storing
  stored_refused refusal e =
      let p = fault_first lent (refusal_number refusal) (refusal_place refusal) (sym e) in
      record {
        says = λ es r. rw p;
        leaves = λ es r. unchanged es r (storing places (length units) fingerprint lent es) (rw p);
        keeps = λ _. (refl, refl);
        lies = tt;
      }

  -- what was found is held
  pub stored_held : {p : Place} → faultless ≡ argument_fault lent.text lent.records → FindsLine places index units fingerprint lent (Some p)
      → Stores places fingerprint lent (Ok (Cached.Held p.start p.units)) index units index units
  unfolding storing
  stored_held e f =
      record {
        says = λ es r. let t = sym (f.says es r) in rw (stands_built fingerprint lent es r.lines (sym e) t, t);
        leaves = λ es r.
            let t = sym (f.says es r) in
            unchanged es r (storing places (length units) fingerprint lent es) (rw (stands_built fingerprint lent es r.lines (sym e) t, t));
        keeps = λ _. (refl, refl);
        lies = f.lies;
      }

  -- what was not found is added, or refused
  pub stored_new : (r : Result Cached Refusal) {index' units' : List ℕ} → FindsLine places index units fingerprint lent None
      → Adds places fingerprint lent r index units index' units' → Stores places fingerprint lent r index units index' units'
  stored_new r {index'} {units'} f a =
      record {
        says = λ es h. a.says es h ∙ sym (new es h);
        leaves = λ es h. rw (new es h) (a.leaves es h);
        keeps = a.keeps;
        lies = a.lies;
      }
    where
      new : (es : List CacheEntry) → Represents places index units es → storing places (length units) fingerprint lent es ≡ adding_new places (length units) fingerprint lent es
      new es h = not_standing places (length units) fingerprint lent es (sym (f.says es h))
