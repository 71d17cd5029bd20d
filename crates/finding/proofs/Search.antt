-- Looking through the entries of a store, one after another. Assumes nothing.
use Rattle.std.specs.Prelude.{Some}
use Prim.Native.Nat.{ℕ, ◌+◌, ◌-◌, ◌*◌, ◌≤◌, ◌<◌, min}
use native.Mathlib.Omega.{arith}
use mathlib.Core.Path.{◌≡◌, refl, sym, ap, ◌∙◌}
use mathlib.Core.Bool.{Bool, true, false}
use mathlib.Core.List.{List, [], ◌∷◌, ◌++◌, append_assoc}
use lib.Dec.{eqb}
use lib.ListN.{length, get_or, length-append}
use Rattle.rules.specs.Choice.{both}
use Rattle.rules.specs.Record.{part}
use Rattle.rules.specs.Key.{Launch, Key, key_of, same_flag}
use Rattle.rules.specs.Cache.{CacheEntry, answers_to, key_size, entry_uses, all_use, there, nowhere, standing}
use Rattle.rules.specs.Store.{key_units, flag_word, Represents}
use Rattle.laws.specs.Keys.{same_units}
use Rattle.laws.specs.Choice.{clash}
use Rattle.laws.specs.Entries.{EntryAt, count_is, words_are, key_is, entry_within, use_last}
use Rattle.finding.specs.Found.{answers_at, line_at, found_said, Lies}

-- ---- one entry

-- two flags are the same where their words are
flags : (a b : Bool) → eqb (flag_word a) (flag_word b) ≡ same_flag a b
flags true true = refl
flags true false = refl
flags false true = refl
flags false false = refl

module _ {index : List ℕ} (units : List ℕ) {at start : ℕ} (e : CacheEntry) (w : EntryAt index at start e) where
  -- an entry answers by its words and units just as it does by fingerprint and key
  answers_are : part units start (key_size e.key) ≡ key_units e.key → (fingerprint : ℕ) (lent : Launch)
      → answers_at index at units fingerprint lent.force lent.program (key_of lent).arguments ≡ answers_to fingerprint (key_of lent) e
  unfolding answers_at key_units
  answers_are k fingerprint lent =
      rw (w.fingerprint, w.flag, w.program, w.start, w.key, k, flags e.key.force lent.force)
      (ap (both (eqb e.fingerprint fingerprint)) (same_units e.key (key_of lent)))

  -- its line stands where its words say, and nothing is clipped
  line_stands : start + entry_uses e ≤ length units → found_said (Some (line_at index at (length units))) ≡ there (start + key_size e.key) (length e.line)
  unfolding entry_uses
  line_stands h =
      let room = length units in
      let a : min start room + min (key_size e.key) (room - min start room) ≡ start + key_size e.key = omega arith in
      let b : min (length e.line) (room - (start + key_size e.key)) ≡ length e.line = omega arith in
      rw (w.start, w.key, w.line, a, b)

-- ---- entry after entry

-- the entries before an index do not answer: what is left decides
pub record Searched (fingerprint : ℕ) (key : Key) (es : List CacheEntry) (i : ℕ) : Type 0 where
  pub before : List CacheEntry
  pub behind : List CacheEntry
  pub whole : es ≡ before ++ behind
  pub counts : i ≡ length before
  pub still : standing fingerprint key 0 es ≡ standing fingerprint key (all_use before) behind

-- none is looked at yet
pub none_searched : (fingerprint : ℕ) (key : Key) (es : List CacheEntry) → Searched fingerprint key es 0
unfolding all_use
none_searched fingerprint key es = record { before = []; behind = es; whole = refl; counts = refl; still = refl }

-- all are, and none answers
pub all_searched : {fingerprint : ℕ} {key : Key} {es : List CacheEntry} {i : ℕ} → Searched fingerprint key es i → length es ≤ i
    → nowhere ≡ standing fingerprint key 0 es
unfolding standing
all_searched {fingerprint} {key} {es} {i} s h = sym (s.still ∙ go s.behind (ap length s.whole ∙ length-append s.before s.behind))
  where
    go : (behind : List CacheEntry) → length es ≡ length s.before + length behind → standing fingerprint key (all_use s.before) behind ≡ nowhere
    go [] e = refl
    go (x ∷ behind) e = absurd (omega (arith, s.counts))

module _ {places : ℕ} {index units : List ℕ} {es : List CacheEntry} (r : Represents places index units es) (fingerprint : ℕ) (lent : Launch) where
  abbrev key : Key
  key = key_of lent

  -- what the words at a place tell of the entry there
  abbrev told : ℕ → Bool
  told i = answers_at index (2 + 6 * i) units fingerprint lent.force lent.program key.arguments

  -- the entry of the next index answers, or those behind it are left
  data Next (i : ℕ) : Type 0 where
    here : told i ≡ true → found_said (Some (line_at index (2 + 6 * i) (length units))) ≡ standing fingerprint key 0 es → Next i
    on : told i ≡ false → Searched fingerprint key es (i + 1) → Next i

  next : (i : ℕ) → i < length es → Searched fingerprint key es i → Next i
  unfolding standing
  next i h s = go s.behind s.whole s.still
    where
      go : (behind : List CacheEntry) → es ≡ s.before ++ behind → standing fingerprint key 0 es ≡ standing fingerprint key (all_use s.before) behind → Next i
      go [] w t = absurd (omega (arith, s.counts, ap length w, length-append s.before []))
      go (e ∷ behind) w t = decide (answers_to fingerprint key e) refl
        where
          own : Represents places index units (s.before ++ e ∷ behind)
          own = rw w at r

          words : EntryAt index (2 + 6 * i) (all_use s.before) e
          words = rw s.counts (words_are s.before e behind own)

          tells : told i ≡ answers_to fingerprint key e
          tells = answers_are units e words (key_is s.before e behind own) fingerprint lent

          decide : (b : Bool) → answers_to fingerprint key e ≡ b → Next i
          decide true d =
              here (tells ∙ d) (line_stands units e words (entry_within s.before e behind own) ∙ sym (t ∙ rw d))
          decide false d =
              on (tells ∙ d)
              (record {
                before = s.before ++ e ∷ [];
                behind = behind;
                whole = w ∙ sym (append_assoc s.before (e ∷ []) behind);
                counts = rw (length-append s.before (e ∷ []), ← s.counts);
                still = t ∙ rw (d, use_last s.before e);
              })

  -- it answers: its line is the one
  pub found_here : (i : ℕ) → i < length es → Searched fingerprint key es i → told i ≡ true
      → found_said (Some (line_at index (2 + 6 * i) (length units))) ≡ standing fingerprint key 0 es
  found_here i h s t = go (next i h s)
    where
      go : Next i → found_said (Some (line_at index (2 + 6 * i) (length units))) ≡ standing fingerprint key 0 es
      go (here u f) = f
      go (on u f) = clash (told i) t u

  -- it does not: on to the next
  pub found_on : (i : ℕ) → i < length es → Searched fingerprint key es i → told i ≡ false → Searched fingerprint key es (i + 1)
  found_on i h s t = go (next i h s)
    where
      go : Next i → Searched fingerprint key es (i + 1)
      go (here u f) = clash (told i) u t
      go (on u f) = f

-- ---- bounds

-- as many entries are looked at as there are
pub all_counted : {places : ℕ} {index units : List ℕ} {es : List CacheEntry} → Represents places index units es → (n : ℕ) → n ≡ min places (get_or index 0 0) → n ≡ length es
all_counted r n e = omega (arith, e, count_is r, r.fits)

-- whatever the words say, the line lies within the units
pub clipped_lies : (index : List ℕ) (at room : ℕ) → Lies room (Some (line_at index at room))
clipped_lies index at room = omega arith
