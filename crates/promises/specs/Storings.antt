-- What a storing of the launch line cache comes to, and what it leaves to be found. Assumes nothing.
-- "the builder's refusals save 4 pass through first .. Then 3 if all entries are used, then 4 exactly if that is more than the units left." (02, E3)
use Rattle.std.specs.Prelude.{ℕ, ◌+◌, ◌-◌, ◌≤◌, ◌<◌, ◌≡◌, ◌↔◌, Bool, true, false, eqb, ltb, leb, Result, Ok}
use Rattle.std.proofs.Common.{zero-add, arith, leb-true, leb-false, ltb-true, ltb-false, ◌∙◌, length-append}
use Rattle.std.proofs.Math.Path.{refl, sym, ap, subst⁻¹}
use mathlib.Core.List.{List, [], ◌∷◌, ◌++◌}
use Rattle.std.proofs.Math.ListN.{length}
use Rattle.rules.specs.declared.Refusal.{Refusal}
use Rattle.rules.specs.declared.Cached.{Cached}
use Rattle.rules.specs.Choice.{pick, either, any}
use Rattle.rules.specs.Outcome.{Outcome, done, refused, refuse, faultless}
use Rattle.rules.specs.Record.{part, argument_fault}
use Rattle.rules.specs.Building.{line_limit}
use Rattle.rules.specs.Key.{Launch, Key, key_of, prepared}
use Rattle.rules.specs.Cache.{cache_places, CacheEntry, cache_entry, answers_to, key_size, entry_uses, all_use, Standing, there, nowhere, standing, Served, missed}
use Rattle.rules.specs.Cache.{hit, held, stored, past_builder, unless_held, adding, looking, storing, stored_in, Call, store, left_by, left_by_all}
use Rattle.rules.specs.Store.{cached_said, Represents, LooksUp, Stores}
use Rattle.laws.specs.Prepared.{lined, never_given}
use Rattle.laws.specs.Standing.{is_there, there_exactly, stands_built, stands_still, stands_last}
use Rattle.laws.specs.Choice.{clash}
use Rattle.laws.specs.Order.{given}
use Rattle.promises.specs.Line.{line_only}
use Rattle.promises.specs.History.{After, after_store, entries_after, represented, units_kept}
use Rattle.promises.specs.OwnLine.{OwnLine, standing_own, hit_found}

-- "Hold up to 64 prepared lines": never more
pub at_most : {calls : List Call} {index units : List ℕ} → After calls index units → length (entries_after calls units) ≤ 64
unfolding cache_places
at_most a = (represented a).fits

-- where an answer says that the line stands
abbrev pub told_of : Outcome Served → Standing
told_of (done missed) = nowhere
told_of (done (hit start size)) = there start size
told_of (done (held start size)) = there start size
told_of (done (stored start size)) = there start size
told_of (refused number place) = nowhere

-- a result is no refusal
differ : {A : Type 0} {x : A} {number place : ℕ} {B : Type 0} → done x ≡ refused number place → B
differ e = let z : ◌≡◌ {A = ℕ} 0 1 = cc in absurd (omega arith)

-- one refusal has one number
one_number : {A : Type 0} {number place number' place' : ℕ} → ◌≡◌ {A = Outcome A} (refused number place) (refused number' place') → number ≡ number'
one_number e = cc

-- and one place
one_place : {A : Type 0} {number place number' place' : ℕ} → ◌≡◌ {A = Outcome A} (refused number place) (refused number' place') → place ≡ place'
one_place e = cc

-- what is nowhere is not told
untold : {start size : ℕ} {B : Type 0} → nowhere ≡ there start size → B
untold e = let z : ◌≡◌ {A = ℕ} 0 1 = cc in absurd (omega arith)

-- ---- in the entries

module _ (places room fingerprint : ℕ) (lent : Launch) (es : List CacheEntry) where
  abbrev key : Key
  key = key_of lent

  abbrev entry : CacheEntry
  entry = cache_entry fingerprint key

  -- the builder makes a line of it, and no entry has that fingerprint and that key
  pub record New : Type 0 where
    pub line : List ℕ
    pub built : prepared lent ≡ done line
    pub none : any (answers_to fingerprint key) es ≡ false

  -- what storing comes to, each with its condition
  pub data Comes (o : Outcome Served) : Type 0 where
    refuses : (number place : ℕ) → prepared lent ≡ refused number place → o ≡ refused number place → Comes o
    holds : (line : List ℕ) (start size : ℕ) → prepared lent ≡ done line → standing fingerprint key 0 es ≡ there start size → o ≡ done (held start size) → Comes o
    full : New → places ≤ length es → o ≡ refused 3 0 → Comes o
    wide : New → length es < places → room - all_use es < entry_uses entry → o ≡ refused 4 0 → Comes o
    fits : New → length es < places → entry_uses entry ≤ room - all_use es → o ≡ done (stored (all_use es + key_size key) (length entry.line)) → Comes o

  comes : Comes (storing places room fingerprint lent es)
  unfolding storing adding
  comes = go (prepared lent) refl (standing fingerprint key 0 es) refl (leb places (length es)) refl (ltb (room - all_use es) (entry_uses entry)) refl
    where
      new : (line : List ℕ) → prepared lent ≡ done line → standing fingerprint key 0 es ≡ nowhere → New
      new line p t = record { line = line; built = p; none = sym (there_exactly fingerprint key 0 es) ∙ ap is_there t }

      go : (o : Outcome (List ℕ)) → prepared lent ≡ o → (t : Standing) → standing fingerprint key 0 es ≡ t → (b : Bool) → leb places (length es) ≡ b
          → (d : Bool) → ltb (room - all_use es) (entry_uses entry) ≡ d
          → Comes (past_builder o (unless_held t (refuse 3 b (refuse 4 d (done (stored (all_use es + key_size key) (length entry.line)))))))
      go (refused number place) p t s b l d f = refuses number place p refl
      go (done line) p (there start size) s b l d f = holds line start size p s refl
      go (done line) p nowhere s true l d f = full (new line p s) (leb-true places (length es) l) refl
      go (done line) p nowhere s false l true f = wide (new line p s) (leb-false places (length es) l) (ltb-true (room - all_use es) (entry_uses entry) f) refl
      go (done line) p nowhere s false l false f = fits (new line p s) (leb-false places (length es) l) (ltb-false (room - all_use es) (entry_uses entry) f) refl

  -- what no entry answers to stands nowhere
  stands_nowhere : New → standing fingerprint key 0 es ≡ nowhere
  stands_nowhere n = go (standing fingerprint key 0 es) (there_exactly fingerprint key 0 es ∙ n.none)
    where
      go : (t : Standing) → is_there t ≡ false → t ≡ nowhere
      go (there start size) e = let z : ◌≡◌ {A = ℕ} 0 1 = cc in absurd (omega arith)
      go nowhere e = refl

  -- what was added or is held stands, afterwards, where the storing says
  stands_stored : (o : Outcome Served) → Comes o → {start size : ℕ} → told_of o ≡ there start size → standing fingerprint key 0 (stored_in o entry es) ≡ there start size
  stands_stored o (refuses number place p e) t = untold (rw e at t)
  stands_stored o (holds line start size p s e) t = rw e (s ∙ rw e at t)
  stands_stored o (full n l e) t = untold (rw e at t)
  stands_stored o (wide n l w e) t = untold (rw e at t)
  stands_stored o (fits n l w e) t = rw e (stands_last fingerprint key 0 es (stands_nowhere n) ∙ rw (zero-add (all_use es)) (rw e at t))

  -- a new key is neither refused by the builder nor held
  not_refused : New → {B : Type 0} (number place : ℕ) → prepared lent ≡ refused number place → B
  not_refused n number place p = differ (sym n.built ∙ p)

  not_held : New → {B : Type 0} (start size : ℕ) → standing fingerprint key 0 es ≡ there start size → B
  not_held n start size t = untold (sym (stands_nowhere n) ∙ t)

  -- 3, exactly when
  full_exactly : (o : Outcome Served) → Comes o → (o ≡ refused 3 0) ↔ (New × (places ≤ length es))
  full_exactly o c = (go c, back c)
    where
      go : Comes o → o ≡ refused 3 0 → New × (places ≤ length es)
      go (refuses number place p e) f = absurd (never_given lent 3 refl refl number place p (one_number (sym e ∙ f)))
      go (holds line start size p t e) f = differ (sym e ∙ f)
      go (full n l e) f = (n, l)
      go (wide n l w e) f = let z : ◌≡◌ {A = ℕ} 4 3 = one_number (sym e ∙ f) in absurd (omega arith)
      go (fits n l w e) f = differ (sym e ∙ f)

      back : Comes o → New × (places ≤ length es) → o ≡ refused 3 0
      back (refuses number place p e) (n, h) = not_refused n number place p
      back (holds line start size p t e) (n, h) = not_held n start size t
      back (full n l e) (m, h) = e
      back (wide n l w e) (m, h) = absurd (omega arith)
      back (fits n l w e) (m, h) = absurd (omega arith)

  -- 4, exactly when
  wide_exactly : (o : Outcome Served) → Comes o → (o ≡ refused 4 0) ↔ (New × (length es < places) × (room - all_use es < entry_uses entry))
  wide_exactly o c = (go c, back c)
    where
      go : Comes o → o ≡ refused 4 0 → New × (length es < places) × (room - all_use es < entry_uses entry)
      go (refuses number place p e) f = absurd (never_given lent 4 refl refl number place p (one_number (sym e ∙ f)))
      go (holds line start size p t e) f = differ (sym e ∙ f)
      go (full n l e) f = let z : ◌≡◌ {A = ℕ} 3 4 = one_number (sym e ∙ f) in absurd (omega arith)
      go (wide n l w e) f = (n, l, w)
      go (fits n l w e) f = differ (sym e ∙ f)

      back : Comes o → New × (length es < places) × (room - all_use es < entry_uses entry) → o ≡ refused 4 0
      back (refuses number place p e) (n, h, u) = not_refused n number place p
      back (holds line start size p t e) (n, h, u) = not_held n start size t
      back (full n l e) (m, h, u) = absurd (omega arith)
      back (wide n l w e) (m, h, u) = e
      back (fits n l w e) (m, h, u) = absurd (omega arith)

  -- an entry is added, exactly when
  adds_exactly : (o : Outcome Served) → Comes o → (stored_in o entry es ≡ es ++ entry ∷ []) ↔ (New × (length es < places) × (entry_uses entry ≤ room - all_use es))
  adds_exactly o c = (go c, back c)
    where
      same : {B : Type 0} → es ≡ es ++ entry ∷ [] → B
      same e = absurd (omega (arith, ap length e, length-append es (entry ∷ [])))

      go : Comes o → stored_in o entry es ≡ es ++ entry ∷ [] → New × (length es < places) × (entry_uses entry ≤ room - all_use es)
      go (refuses number place p e) f = same (rw e at f)
      go (holds line start size p t e) f = same (rw e at f)
      go (full n l e) f = same (rw e at f)
      go (wide n l w e) f = same (rw e at f)
      go (fits n l w e) f = (n, l, w)

      back : Comes o → New × (length es < places) × (entry_uses entry ≤ room - all_use es) → stored_in o entry es ≡ es ++ entry ∷ []
      back (refuses number place p e) (n, h, u) = not_refused n number place p
      back (holds line start size p t e) (n, h, u) = not_held n start size t
      back (full n l e) (m, h, u) = absurd (omega arith)
      back (wide n l w e) (m, h, u) = absurd (omega arith)
      back (fits n l w e) (m, h, u) = rw e

-- ---- in the store

module _ {calls : List Call} {index units index' units' : List ℕ} (a : After calls index units) (fingerprint : ℕ) (lent : Launch) (r : Result Cached Refusal)
    (s : Stores cache_places fingerprint lent r index units index' units') where
  -- the entries before
  abbrev es : List CacheEntry
  es = entries_after calls units

  -- a key that the builder takes and that is not held
  abbrev pub Fresh : Type 0
  Fresh = New cache_places (length units) fingerprint lent es

  -- the new entry
  abbrev new : CacheEntry
  new = cache_entry fingerprint (key_of lent)

  -- how many units are left
  abbrev units_left : ℕ
  units_left = length units - all_use es

  -- what the storing says comes to one of five, each with its condition
  pub store_comes : Comes cache_places (length units) fingerprint lent es (cached_said r)
  store_comes = rw (s.says es (represented a)) (comes cache_places (length units) fingerprint lent es)

  -- only 5, 2, 3 and 4 are given at place 0, only 1 and 5 at a record's place
  pub store_only : (number place : ℕ) → cached_said r ≡ refused number place → given (5 ∷ 2 ∷ 3 ∷ 4 ∷ []) (1 ∷ 5 ∷ []) number place ≡ true
  store_only number place e = go store_comes
    where
      three_more : (z a b c d x : Bool) → pick z (either a (either b (either c false))) x ≡ true → pick z (either a (either b (either d (either c false)))) x ≡ true
      three_more false a b c d x h = h
      three_more true true b c d x h = refl
      three_more true false true c d x h = refl
      three_more true false false true true x h = refl
      three_more true false false true false x h = refl
      three_more true false false false d x h = clash false h refl

      same : {n p : ℕ} → cached_said r ≡ refused n p → given (5 ∷ 2 ∷ 3 ∷ 4 ∷ []) (1 ∷ 5 ∷ []) n p ≡ true
          → given (5 ∷ 2 ∷ 3 ∷ 4 ∷ []) (1 ∷ 5 ∷ []) number place ≡ true
      same {n} {p} f g =
          let m : n ≡ number = one_number (sym f ∙ e) in
          let q : p ≡ place = one_place (sym f ∙ e) in
          rw (m, q) at g

      go : Comes cache_places (length units) fingerprint lent es (cached_said r) → given (5 ∷ 2 ∷ 3 ∷ 4 ∷ []) (1 ∷ 5 ∷ []) number place ≡ true
      go (refuses n q p f) =
          let g = line_only lent.force lent.program lent.records lent.text line_limit n q p in
          same f (three_more (eqb q 0) (eqb n 5) (eqb n 2) (eqb n 4) (eqb n 3) (any (eqb n) (1 ∷ 5 ∷ [])) g)
      go (holds line start size p t f) = differ (sym f ∙ e)
      go (full n l f) = same f refl
      go (wide n l w f) = same f refl
      go (fits n l w f) = differ (sym f ∙ e)

  -- "the builder's refusals save 4 pass through first"
  pub builder_first : (number place : ℕ) → prepared lent ≡ refused number place → cached_said r ≡ refused number place
  unfolding storing
  builder_first number place e = s.says es (represented a) ∙ rw e

  -- "Then 3 if all entries are used": of what the builder takes and is not held, exactly then
  pub store_full : (cached_said r ≡ refused 3 0) ↔ (Fresh × (64 ≤ length es))
  unfolding cache_places
  store_full = full_exactly cache_places (length units) fingerprint lent es (cached_said r) store_comes

  -- "then 4 exactly if that is more than the units left"
  pub store_wide : (cached_said r ≡ refused 4 0) ↔ (Fresh × (length es < 64) × (units_left < entry_uses new))
  unfolding cache_places
  store_wide = wide_exactly cache_places (length units) fingerprint lent es (cached_said r) store_comes

  -- "Any other storing that isn't refused adds one entry, with that fingerprint, that key and the builder's line", and the others stay as they were
  pub store_adds : (entries_after (store fingerprint lent ∷ calls) units ≡ es ++ new ∷ []) ↔ (Fresh × (length es < 64) × (entry_uses new ≤ units_left))
  unfolding cache_places left_by_all left_by
  store_adds =
      let room = length units in
      adds_exactly cache_places room fingerprint lent es (storing cache_places room fingerprint lent es) (comes cache_places room fingerprint lent es)

  -- "Storing what a lookup would hit changes nothing and says so."
  pub held_unchanged : (start size : ℕ) → LooksUp cache_places index units fingerprint lent (Ok (Cached.Hit start size))
      → (cached_said r ≡ done (held start size)) × (index' ≡ index) × (units' ≡ units)
  unfolding looking storing
  held_unchanged start size l =
      let (f, t) = hit_found (argument_fault lent.text lent.records) (standing fingerprint (key_of lent) 0 es) (l.says es (represented a)) in
      let e : cached_said r ≡ done (held start size) = s.says es (represented a) ∙ rw (stands_built fingerprint lent es (represented a).lines f t, t) in
      let (i, u) = s.keeps (rw e) in
      (e, i, u)

  -- the entries afterwards
  abbrev es' : List CacheEntry
  es' = entries_after (store fingerprint lent ∷ calls) units'

  -- the memory afterwards stands for them
  represented' : Represents cache_places index' units' es'
  represented' = represented (after_store fingerprint lent r a s)

  -- they are those before and perhaps the new one
  left_are : es' ≡ stored_in (cached_said r) new es
  unfolding left_by_all left_by
  left_are =
      subst⁻¹ (λ n. left_by_all cache_places n (store fingerprint lent ∷ calls) ≡ stored_in (cached_said r) new es) (units_kept a fingerprint lent r s)
      (ap (λ o. stored_in o new es) (sym (s.says es (represented a))))

  -- what was stored, or was held, stands where the storing says
  stands_there : (start size : ℕ) → told_of (cached_said r) ≡ there start size → standing fingerprint (key_of lent) 0 es' ≡ there start size
  stands_there start size t = rw left_are (stands_stored cache_places (length units) fingerprint lent es (cached_said r) store_comes t)

  -- the records of what was stored or held are sound
  told_sound : (start size : ℕ) → told_of (cached_said r) ≡ there start size → argument_fault lent.text lent.records ≡ faultless
  told_sound start size t = go store_comes
    where
      go : Comes cache_places (length units) fingerprint lent es (cached_said r) → argument_fault lent.text lent.records ≡ faultless
      go (refuses number place p e) = untold (rw e at t)
      go (holds line start size p s e) = (lined lent line p).sound
      go (full n l e) = (lined lent n.line n.built).sound
      go (wide n l w e) = (lined lent n.line n.built).sound
      go (fits n l w e) = (lined lent n.line n.built).sound

  -- so the part of the units that a storing hands back, stored now or held before, is the own line of what was lent
  pub stored_own : (start size : ℕ) → told_of (cached_said r) ≡ there start size → OwnLine es' fingerprint lent (part units' start size)
  stored_own start size t = standing_own es' represented' fingerprint lent (told_sound start size t) (stands_there start size t)

  -- and a lookup hits it there afterwards
  pub stored_found : (start size : ℕ) → told_of (cached_said r) ≡ there start size → (q : Result Cached Refusal) → LooksUp cache_places index' units' fingerprint lent q
      → cached_said q ≡ done (hit start size)
  unfolding looking
  stored_found start size t q l = l.says es' represented' ∙ rw (told_sound start size t, stands_there start size t)

  -- "leaves every other entry's key and line as they were": what a lookup hit before, it hits afterwards, at the same place, and the line there is the same
  module _ (fingerprint' : ℕ) (lent' : Launch) (start size : ℕ) (l : LooksUp cache_places index units fingerprint' lent' (Ok (Cached.Hit start size))) where
    hit_before : (argument_fault lent'.text lent'.records ≡ faultless) × (standing fingerprint' (key_of lent') 0 es ≡ there start size)
    unfolding looking
    hit_before = hit_found (argument_fault lent'.text lent'.records) (standing fingerprint' (key_of lent') 0 es) (l.says es (represented a))

    hit_after : standing fingerprint' (key_of lent') 0 es' ≡ there start size
    hit_after = rw left_are (go (cached_said r))
      where
        go : (o : Outcome Served) → standing fingerprint' (key_of lent') 0 (stored_in o new es) ≡ there start size
        go (done missed) = hit_before.1
        go (done (hit s n)) = hit_before.1
        go (done (held s n)) = hit_before.1
        go (done (stored s n)) = stands_still fingerprint' (key_of lent') 0 es (new ∷ []) hit_before.1
        go (refused number place) = hit_before.1

    pub hits_stay : (q : Result Cached Refusal) → LooksUp cache_places index' units' fingerprint' lent' q → cached_said q ≡ done (hit start size)
    unfolding looking
    hits_stay q m = m.says es' represented' ∙ rw (hit_before.0, hit_after)

    pub lines_stay : part units' start size ≡ part units start size
    lines_stay =
        let o = standing_own es (represented a) fingerprint' lent' hit_before.0 hit_before.1 in
        let p = standing_own es' represented' fingerprint' lent' hit_before.0 hit_after in
        one_result (sym p.built ∙ o.built)
      where
        one_result : {x y : List ℕ} → done x ≡ done y → x ≡ y
        one_result e = cc
