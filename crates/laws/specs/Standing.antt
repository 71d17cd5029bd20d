-- Where the line of a key stands among entries: in which entry, and when at all. Assumes nothing.
use Rattle.std.specs.Prelude.{ℕ, ◌+◌, refl, ◌↔◌, Bool, true, false, eqb, length}
use Rattle.std.proofs.Math.Nat.{add-zero}
use Rattle.std.proofs.Common.{add_assoc, arith, eq-eqb, eqb-true, sym, ap, ◌∙◌}
use Rattle.std.proofs.Math.Path.{◌≡◌}
use mathlib.Core.List.{List, [], ◌∷◌, ◌++◌}
use Rattle.rules.specs.Choice.{pick, either, any}
use Rattle.rules.specs.Outcome.{done, faultless}
use Rattle.rules.specs.Record.{argument_fault}
use Rattle.rules.specs.Key.{Launch, Key, key_of, same_key, prepared}
use Rattle.rules.specs.Cache.{CacheEntry, cache_entry, answers_to, key_size, entry_uses, all_use, Standing, there, nowhere, standing}
use Rattle.rules.specs.Store.{Prepared, AllPrepared}
use Rattle.laws.specs.Choice.{both_true}
use Rattle.laws.specs.Keys.{same_key_lem}
use Rattle.laws.specs.Entries.{none_use, use_one}
use Rattle.laws.specs.Prepared.{built_again}

-- an entry answers exactly if it has that fingerprint and that very key
pub answers_exactly : (fingerprint : ℕ) (key : Key) (e : CacheEntry) → (answers_to fingerprint key e ≡ true) ↔ ((e.fingerprint ≡ fingerprint) × (e.key ≡ key))
answers_exactly fingerprint key e = (go, back)
  where
    go : answers_to fingerprint key e ≡ true → (e.fingerprint ≡ fingerprint) × (e.key ≡ key)
    go h =
        let (p, q) = both_true (eqb e.fingerprint fingerprint) (same_key e.key key) h in
        (eqb-true e.fingerprint fingerprint p, (same_key_lem e.key key).0 q)

    back : (e.fingerprint ≡ fingerprint) × (e.key ≡ key) → answers_to fingerprint key e ≡ true
    back (p, q) = rw (eq-eqb e.fingerprint fingerprint p, (same_key_lem e.key key).1 q)

-- ---- in which entry

-- an entry with that fingerprint and that key, whose line stands there; the units of the first entry start at the place given
pub record StandsIn (fingerprint : ℕ) (key : Key) (from : ℕ) (es : List CacheEntry) (start units : ℕ) : Type 0 where
  pub before : List CacheEntry
  pub entry : CacheEntry
  pub behind : List CacheEntry
  pub whole : es ≡ before ++ entry ∷ behind
  pub print_is : entry.fingerprint ≡ fingerprint
  pub key_is : entry.key ≡ key
  pub starts : start ≡ from + all_use before + key_size entry.key
  pub counts : units ≡ length entry.line

-- what stands somewhere stands in such an entry
pub stands_in : (fingerprint : ℕ) (key : Key) (from : ℕ) (es : List CacheEntry) {start units : ℕ} → standing fingerprint key from es ≡ there start units
    → StandsIn fingerprint key from es start units
unfolding standing
stands_in fingerprint key from [] e = let z : ◌≡◌ {A = ℕ} 0 1 = cc in absurd (omega arith)
stands_in fingerprint key from (x ∷ es) {start} {units} e = go (answers_to fingerprint key x) refl (stands_in fingerprint key (from + entry_uses x) es) e
  where
    go : (b : Bool) → answers_to fingerprint key x ≡ b
        → (standing fingerprint key (from + entry_uses x) es ≡ there start units → StandsIn fingerprint key (from + entry_uses x) es start units)
        → pick b (there (from + key_size x.key) (length x.line)) (standing fingerprint key (from + entry_uses x) es) ≡ there start units
        → StandsIn fingerprint key from (x ∷ es) start units
    go true t ih e =
        let (p, k) = (answers_exactly fingerprint key x).0 t in
        let s : from + key_size x.key ≡ start = cc in
        let n : length x.line ≡ units = cc in
        record { before = []; entry = x; behind = es; whole = refl; print_is = p; key_is = k; starts = omega (arith, s, none_use); counts = sym n }
    go false t ih e =
        let s = ih e in
        record {
          before = x ∷ s.before;
          entry = s.entry;
          behind = s.behind;
          whole = ap (λ (l : List CacheEntry). x ∷ l) s.whole;
          print_is = s.print_is;
          key_is = s.key_is;
          starts = omega (arith, s.starts, use_one x s.before);
          counts = s.counts;
        }

-- its line is the builder's where all are
pub prepared_in : (before : List CacheEntry) (e : CacheEntry) (behind : List CacheEntry) → AllPrepared (before ++ e ∷ behind) → Prepared e
prepared_in [] e behind a = a.0
prepared_in (x ∷ before) e behind a = prepared_in before e behind a.1

-- so what is lent for a key that stands somewhere is built again, and gives the line that stands there
pub stands_built : (fingerprint : ℕ) (lent : Launch) (es : List CacheEntry) {start units : ℕ} → AllPrepared es → argument_fault lent.text lent.records ≡ faultless
    → (e : standing fingerprint (key_of lent) 0 es ≡ there start units) → prepared lent ≡ done (stands_in fingerprint (key_of lent) 0 es e).entry.line
stands_built fingerprint lent es a f e =
    let s = stands_in fingerprint (key_of lent) 0 es e in
    built_again lent s.entry f s.key_is (prepared_in s.before s.entry s.behind (rw s.whole at a))

-- one more
pub prepared_more : (es : List CacheEntry) (e : CacheEntry) → AllPrepared es → Prepared e → AllPrepared (es ++ e ∷ [])
prepared_more [] e a p = (p, tt)
prepared_more (x ∷ es) e a p = (a.0, prepared_more es e a.1 p)

-- ---- when at all

-- it stands somewhere
abbrev pub is_there : Standing → Bool
is_there (there start units) = true
is_there nowhere = false

-- exactly if an entry answers
pub there_exactly : (fingerprint : ℕ) (key : Key) (from : ℕ) (es : List CacheEntry) → is_there (standing fingerprint key from es) ≡ any (answers_to fingerprint key) es
unfolding standing
there_exactly fingerprint key from [] = refl
there_exactly fingerprint key from (e ∷ es) = go (answers_to fingerprint key e) (there_exactly fingerprint key (from + entry_uses e) es)
  where
    go : (b : Bool) → is_there (standing fingerprint key (from + entry_uses e) es) ≡ any (answers_to fingerprint key) es
        → is_there (pick b (there (from + key_size e.key) (length e.line)) (standing fingerprint key (from + entry_uses e) es)) ≡ either b (any (answers_to fingerprint key) es)
    go true h = refl
    go false h = h

-- ---- more entries behind

module _ (fingerprint : ℕ) (key : Key) where
  -- what stands there still does
  pub stands_still : (from : ℕ) (es more : List CacheEntry) {start units : ℕ} → standing fingerprint key from es ≡ there start units
      → standing fingerprint key from (es ++ more) ≡ there start units
  unfolding standing
  stands_still from [] more e = let z : ◌≡◌ {A = ℕ} 0 1 = cc in absurd (omega arith)
  stands_still from (x ∷ es) more {start} {units} e = go (answers_to fingerprint key x) (stands_still (from + entry_uses x) es more) e
    where
      here : Standing
      here = there (from + key_size x.key) (length x.line)

      go : (b : Bool) → (standing fingerprint key (from + entry_uses x) es ≡ there start units → standing fingerprint key (from + entry_uses x) (es ++ more) ≡ there start units)
          → pick b here (standing fingerprint key (from + entry_uses x) es) ≡ there start units → pick b here (standing fingerprint key (from + entry_uses x) (es ++ more)) ≡ there start units
      go true ih e = e
      go false ih e = ih e

  -- what stood nowhere stands behind the others once it is added
  pub stands_last : (from : ℕ) (es : List CacheEntry) → standing fingerprint key from es ≡ nowhere → let e = cache_entry fingerprint key in
      standing fingerprint key from (es ++ e ∷ []) ≡ there (from + all_use es + key_size key) (length e.line)
  unfolding standing all_use
  stands_last from [] n = rw ((answers_exactly fingerprint key (cache_entry fingerprint key)).1 (refl, refl), add-zero from)
  stands_last from (x ∷ es) n = go (answers_to fingerprint key x) (stands_last (from + entry_uses x) es) n
    where
      new : CacheEntry
      new = cache_entry fingerprint key

      here : Standing
      here = there (from + key_size x.key) (length x.line)

      go : (b : Bool) → (standing fingerprint key (from + entry_uses x) es ≡ nowhere
          → standing fingerprint key (from + entry_uses x) (es ++ new ∷ []) ≡ there (from + entry_uses x + all_use es + key_size key) (length new.line))
          → pick b here (standing fingerprint key (from + entry_uses x) es) ≡ nowhere
          → pick b here (standing fingerprint key (from + entry_uses x) (es ++ new ∷ [])) ≡ there (from + (entry_uses x + all_use es) + key_size key) (length new.line)
      go true ih n = let z : ◌≡◌ {A = ℕ} 0 1 = cc in absurd (omega arith)
      go false ih n = ih n ∙ rw (add_assoc from (entry_uses x) (all_use es))
