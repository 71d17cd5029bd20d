-- When a lookup of the launch line cache hits. Assumes nothing.
use Rattle.std.specs.Prelude.{ℕ, ◌≡◌, refl, ◌↔◌, Bool, true, false, List, [], ◌∷◌, ◌++◌, Result, Ok, Err}
use Rattle.std.proofs.Common.{arith, sym, ap, ◌∙◌}
use Rattle.rules.specs.declared.Refusal.{Refusal}
use Rattle.rules.specs.declared.Cached.{Cached}
use Rattle.rules.specs.Choice.{any}
use Rattle.rules.specs.Outcome.{done, refused, Fault, faultless, fault, unless}
use Rattle.rules.specs.Record.{part, argument_fault}
use Rattle.rules.specs.Key.{Launch, key_of, launch_line}
use Rattle.rules.specs.Cache.{cache_places, CacheEntry, answers_to, Standing, there, nowhere, standing, Served, hit_at, looking, Call}
use Rattle.rules.specs.Store.{cached_said, LooksUp}
use Rattle.laws.specs.Choice.{any_behind}
use Rattle.laws.specs.Order.{given, only}
use Rattle.laws.specs.Prepared.{entry_line}
use Rattle.laws.specs.Standing.{answers_exactly, is_there, there_exactly, prepared_in}
use Rattle.promises.specs.Records.{records_step}
use Rattle.promises.specs.OwnLine.{own_line}
use Rattle.promises.specs.History.{After, entries_after, represented}

-- the answer is a hit
abbrev pub is_hit : Result Cached Refusal → Bool
is_hit (Ok Cached.Missed) = false
is_hit (Ok (Cached.Hit start size)) = true
is_hit (Ok (Cached.Held start size)) = false
is_hit (Ok (Cached.Stored start size)) = false
is_hit (Err r) = false

-- it says whether the key stands somewhere
hit_says : (r : Result Cached Refusal) (t : Standing) → cached_said r ≡ done (hit_at t) → is_hit r ≡ is_there t
hit_says (Ok (Cached.Hit start size)) (there s n) e = refl
hit_says (Ok Cached.Missed) nowhere e = refl
hit_says (Ok Cached.Missed) (there s n) e = let z : ◌≡◌ {A = ℕ} 0 1 = cc in absurd (omega arith)
hit_says (Ok (Cached.Hit start size)) nowhere e = let z : ◌≡◌ {A = ℕ} 0 1 = cc in absurd (omega arith)
hit_says (Ok (Cached.Held start size)) (there s n) e = let z : ◌≡◌ {A = ℕ} 0 1 = cc in absurd (omega arith)
hit_says (Ok (Cached.Held start size)) nowhere e = refl
hit_says (Ok (Cached.Stored start size)) (there s n) e = let z : ◌≡◌ {A = ℕ} 0 1 = cc in absurd (omega arith)
hit_says (Ok (Cached.Stored start size)) nowhere e = refl
hit_says (Err q) (there s n) e = let z : ◌≡◌ {A = ℕ} 0 1 = cc in absurd (omega arith)
hit_says (Err q) nowhere e = refl

-- a fault that refuses
faulty : (f : Fault) (x : Served) {number place : ℕ} → unless f (done x) ≡ refused number place → f ≡ fault number place
faulty faultless x e = let z : ◌≡◌ {A = ℕ} 0 1 = cc in absurd (omega arith)
faulty (fault number place) x e = cc

module _ {calls : List Call} {index units : List ℕ} (a : After calls index units) (fingerprint : ℕ) (lent : Launch) (r : Result Cached Refusal)
    (l : LooksUp cache_places index units fingerprint lent r) where
  -- the entries that the calls left
  abbrev es : List CacheEntry
  es = entries_after calls units

  -- "A lookup gives refusal 1 as the builder does", and no other
  pub lookup_refused : (number place : ℕ) → (cached_said r ≡ refused number place) ↔ (argument_fault lent.text lent.records ≡ fault number place)
  unfolding looking
  lookup_refused number place =
      let s = l.says es (represented a) in
      (λ e. faulty (argument_fault lent.text lent.records) (hit_at (standing fingerprint (key_of lent) 0 es)) (sym s ∙ e), λ f. s ∙ rw f)

  -- so 1 alone is given, at a record's place
  pub lookup_only : (number place : ℕ) → cached_said r ≡ refused number place → given [] (1 ∷ []) number place ≡ true
  unfolding looking argument_fault
  lookup_only number place e =
      only (hit_at (standing fingerprint (key_of lent) 0 es)) (records_step lent.text lent.records ∷ []) number place (sym (l.says es (represented a)) ∙ e)

  -- "A lookup hits exactly if an entry has that fingerprint and an equal key", where the records are sound
  pub hits_exactly : argument_fault lent.text lent.records ≡ faultless → is_hit r ≡ any (answers_to fingerprint (key_of lent)) es
  unfolding looking
  hits_exactly f =
      let key = key_of lent in
      hit_says r (standing fingerprint key 0 es) (l.says es (represented a) ∙ rw f) ∙ there_exactly fingerprint key 0 es

-- every entry is found by its fingerprint and its key, whatever the others have, and its own line is handed back:
-- "two keys under one fingerprint must both be found"
module _ {calls : List Call} {index units : List ℕ} (a : After calls index units) (before : List CacheEntry) (e : CacheEntry) (behind : List CacheEntry)
    (among : entries_after calls units ≡ before ++ e ∷ behind) (lent : Launch) (own : key_of lent ≡ e.key)
    (sound : argument_fault lent.text lent.records ≡ faultless) where
  pub entry_found : (r : Result Cached Refusal) → LooksUp cache_places index units e.fingerprint lent r → is_hit r ≡ true
  entry_found r l =
      let key = key_of lent in
      let t : answers_to e.fingerprint key e ≡ true = (answers_exactly e.fingerprint key e).1 (refl, sym own) in
      hits_exactly a e.fingerprint lent r l sound ∙ rw among (any_behind (answers_to e.fingerprint key) before (e ∷ behind) (rw t))

  pub entry_own : (start size : ℕ) → LooksUp cache_places index units e.fingerprint lent (Ok (Cached.Hit start size)) → part units start size ≡ e.line
  entry_own start size l =
      let o = own_line a e.fingerprint lent start size l in
      let all = (represented a).lines in
      let it = entry_line o.entry (prepared_in o.before o.entry o.behind (rw o.among at all)) in
      let this = entry_line e (prepared_in before e behind (rw among at all)) in
      o.its_line ∙ it ∙ ap launch_line (o.same_key ∙ own) ∙ sym this
