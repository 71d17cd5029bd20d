-- Entries of the launch line cache in memory: each one's words and units, and one entry more behind them. Assumes nothing.
use Prim.Native.Nat.{ℕ, suc, ◌+◌, ◌*◌, ◌≤◌, ◌<◌}
use Rattle.std.proofs.Common.{add-zero, add_assoc, arith, ◌∙◌, drop-drop, get_or-drop}
use Rattle.std.proofs.Math.Nat.{zero-add}
use Rattle.std.specs.Prelude.{◌≡◌, refl}
use Rattle.std.proofs.Math.Path.{sym, ap}
use mathlib.Core.List.{List, [], ◌∷◌, ◌++◌, append_assoc, append-nil}
use Rattle.std.proofs.Math.ListN.{length, get_or, take, drop, length-append, get_or-append}
use Rattle.std.proofs.Math.Seq.{sets, sets-eq, drop-append_seam, take-append_seam}
use Rattle.rules.specs.Outcome.{over}
use Rattle.rules.specs.Record.{part}
use Rattle.rules.specs.Cache.{CacheEntry, key_size, entry_uses, all_use}
use Rattle.rules.specs.Store.{key_units, flag_word, entry_words, all_words, all_units, index_of, Represents}
use Rattle.laws.specs.Keys.{key_length_lem}

-- ---- how many words and units

-- the units of an entry are those that it uses
entry_length : (e : CacheEntry) → length (key_units e.key ++ e.line) ≡ entry_uses e
unfolding entry_uses
entry_length e = length-append (key_units e.key) e.line ∙ rw (key_length_lem e.key)

-- the units of entries are those that they use
pub units_length : (es : List CacheEntry) → length (all_units es) ≡ all_use es
unfolding all_units all_use
units_length [] = refl
units_length (e ∷ es) = length-append (key_units e.key ++ e.line) (all_units es) ∙ rw (entry_length e, units_length es)

-- six words an entry
six_words : (start : ℕ) (e : CacheEntry) → length (entry_words start e) ≡ 6
unfolding entry_words
six_words start e = refl

words_length : (start : ℕ) (es : List CacheEntry) → length (all_words start es) ≡ 6 * length es
unfolding all_words entry_words
words_length start [] = refl
words_length start (e ∷ es) = omega (arith, words_length (start + entry_uses e) es)

-- ---- some entries, and the others behind them

use_append : (es more : List CacheEntry) → all_use (es ++ more) ≡ all_use es + all_use more
unfolding all_use
use_append [] more = sym (zero-add _)
use_append (e ∷ es) more = rw (use_append es more) (sym (add_assoc (entry_uses e) (all_use es) (all_use more)))

-- one entry more
pub use_last : (es : List CacheEntry) (e : CacheEntry) → all_use (es ++ e ∷ []) ≡ all_use es + entry_uses e
unfolding all_use
use_last es e = use_append es (e ∷ []) ∙ rw (add-zero (entry_uses e))

units_append : (es more : List CacheEntry) → all_units (es ++ more) ≡ all_units es ++ all_units more
unfolding all_units
units_append [] more = refl
units_append (e ∷ es) more = rw (units_append es more) (sym (append_assoc (key_units e.key ++ e.line) (all_units es) (all_units more)))

words_append : (start : ℕ) (es more : List CacheEntry) → all_words start (es ++ more) ≡ all_words start es ++ all_words (start + all_use es) more
unfolding all_words all_use entry_words
words_append start [] more = rw (add-zero start)
words_append start (e ∷ es) more = rw (words_append (start + entry_uses e) es more, add_assoc start (entry_uses e) (all_use es))

-- no entries
pub none_use : all_use [] ≡ 0
unfolding all_use
none_use = refl

-- one entry, and the others
pub use_one : (e : CacheEntry) (es : List CacheEntry) → all_use (e ∷ es) ≡ entry_uses e + all_use es
unfolding all_use
use_one e es = refl

-- ---- what memory that stands for entries tells

module _ {places : ℕ} {index units : List ℕ} {es : List CacheEntry} (r : Represents places index units es) where
  -- the words in front: how many entries there are, and how many units they use
  pub count_is : get_or index 0 0 ≡ length es
  unfolding index_of
  count_is = ap (λ (x : List ℕ). get_or x 0 0) r.words

  pub used_is : get_or index 1 0 ≡ all_use es
  unfolding index_of
  used_is = ap (λ (x : List ℕ). get_or x 1 0) r.words

  -- the units that they use are there
  pub used_within : all_use es ≤ length units
  used_within = omega (arith, ap length r.texts, length-append (all_units es) (drop (length (all_units es)) units), units_length es)

-- the six words from a place of the index on are those of an entry whose units start there
pub record EntryAt (index : List ℕ) (at from : ℕ) (e : CacheEntry) : Type 0 where
  pub fingerprint : get_or index at 0 ≡ e.fingerprint
  pub flag : get_or index (at + 1) 0 ≡ flag_word e.key.force
  pub program : get_or index (at + 2) 0 ≡ length e.key.program
  pub start : get_or index (at + 3) 0 ≡ from
  pub key : get_or index (at + 4) 0 ≡ key_size e.key
  pub line : get_or index (at + 5) 0 ≡ length e.line

-- one entry among others
module _ {places : ℕ} {index units : List ℕ} (before : List CacheEntry) (e : CacheEntry) (behind : List CacheEntry)
    (r : Represents places index units (before ++ e ∷ behind)) where
  abbrev es : List CacheEntry
  es = before ++ e ∷ behind

  -- the words behind it, those of no entry with them
  abbrev rest_words : List ℕ
  rest_words = all_words (all_use before + entry_uses e) behind ++ drop (length (index_of es)) index

  -- the units behind it
  abbrev rest_units : List ℕ
  rest_units = all_units behind ++ drop (length (all_units es)) units

  words_from : drop (2 + 6 * length before) index ≡ entry_words (all_use before) e ++ rest_words
  unfolding index_of all_words
  words_from =
      let front = all_words 0 before in
      let spare = drop (length (index_of es)) index in
      let n : 2 + 6 * length before ≡ suc (suc (length front)) = omega (arith, words_length 0 before) in
      let w : all_words 0 es ++ spare ≡ front ++ (all_words (all_use before) (e ∷ behind) ++ spare)
      = rw (words_append 0 before (e ∷ behind), zero-add (all_use before)) (append_assoc front (all_words (all_use before) (e ∷ behind)) spare) in
      let d : drop (suc (suc (length front))) index ≡ drop (length front) (all_words 0 es ++ spare) = ap (drop (suc (suc (length front)))) r.words in
      rw n (d ∙ ap (drop (length front)) w ∙ drop-append_seam front _ ∙ append_assoc (entry_words (all_use before) e) (all_words (all_use before + entry_uses e) behind) spare)

  units_from_lem : drop (all_use before) units ≡ key_units e.key ++ (e.line ++ rest_units)
  unfolding all_units
  units_from_lem =
      let front = all_units before in
      let spare = drop (length (all_units es)) units in
      let own = key_units e.key ++ e.line in
      let w : all_units es ++ spare ≡ front ++ (own ++ all_units behind ++ spare)
      = ap (λ (x : List ℕ). x ++ spare) (units_append before (e ∷ behind)) ∙ append_assoc front (own ++ all_units behind) spare in
      let d : drop (length front) units ≡ own ++ all_units behind ++ spare = ap (drop (length front)) (r.texts ∙ w) ∙ drop-append_seam front _ in
      let n : all_use before ≡ length front = sym (units_length before) in
      rw n (d ∙ append_assoc own (all_units behind) spare ∙ append_assoc (key_units e.key) e.line rest_units)

  word_is : (k : ℕ) → k < 6 → get_or index (2 + 6 * length before + k) 0 ≡ get_or (entry_words (all_use before) e) k 0
  word_is k h =
      sym (get_or-drop (2 + 6 * length before) index k 0) ∙ rw words_from (get_or-append (entry_words (all_use before) e) rest_words 0 k (rw (six_words (all_use before) e) h))

  -- its words
  pub words_are : EntryAt index (2 + 6 * length before) (all_use before) e
  unfolding entry_words
  words_are =
      record {
        fingerprint = ap (λ i. get_or index i 0) (sym (add-zero (2 + 6 * length before))) ∙ word_is 0 (omega arith);
        flag = word_is 1 (omega arith);
        program = word_is 2 (omega arith);
        start = word_is 3 (omega arith);
        key = word_is 4 (omega arith);
        line = word_is 5 (omega arith);
      }

  -- the units of its key
  pub key_is : part units (all_use before) (key_size e.key) ≡ key_units e.key
  key_is = rw (units_from_lem, ← key_length_lem e.key) (take-append_seam (key_units e.key) (e.line ++ rest_units))

  -- and of its line
  pub line_is : part units (all_use before + key_size e.key) (length e.line) ≡ e.line
  line_is =
      rw (← drop-drop (key_size e.key) (all_use before) units, units_from_lem, ← key_length_lem e.key, drop-append_seam (key_units e.key) (e.line ++ rest_units))
      (take-append_seam e.line rest_units)

  -- they lie within what is lent
  pub entry_within : all_use before + entry_uses e ≤ length units
  entry_within = omega (arith, used_within r, use_append before (e ∷ behind), use_one e behind)

-- ---- one entry more

-- the words of an index
pub index_length : (es : List CacheEntry) → length (index_of es) ≡ 2 + 6 * length es
unfolding index_of
index_length es = omega (arith, words_length 0 es)

-- what lies over memory is its front
front_of_lem : (lent result : List ℕ) → lent ≡ over lent result → take (length result) lent ≡ result
front_of_lem lent result e = ap (take (length result)) e ∙ take-append_seam result (drop (length result) lent)

module _ (es : List CacheEntry) (e : CacheEntry) where
  abbrev pub more : List CacheEntry
  more = es ++ e ∷ []

  words_last : all_words 0 more ≡ all_words 0 es ++ entry_words (all_use es) e
  unfolding all_words
  words_last = words_append 0 es (e ∷ []) ∙ rw (zero-add (all_use es))

  units_last : all_units more ≡ all_units es ++ (key_units e.key ++ e.line)
  unfolding all_units
  units_last = units_append es (e ∷ []) ∙ rw append-nil

  index_last : index_of more ≡ (length es + 1) ∷ (all_use es + entry_uses e) ∷ (all_words 0 es ++ entry_words (all_use es) e)
  unfolding index_of
  index_last = rw (words_last, use_last es e, length-append es (e ∷ []))

  -- its words behind the others', and then the two words in front
  pub index_more : (index : List ℕ) → index ≡ over index (index_of es) → 2 + 6 * (length es + 1) ≤ length index
      → sets (sets index (2 + 6 * length es) (entry_words (all_use es) e)) 0 ((length es + 1) ∷ (all_use es + entry_uses e) ∷ []) ≡ over index (index_of more)
  unfolding index_of
  index_more index w h =
      let own = entry_words (all_use es) e in
      let at = 2 + 6 * length es in
      let n : at + length own ≤ length index = rw (six_words (all_use es) e) (omega arith) in
      let f : take at index ≡ index_of es = rw (← index_length es) (front_of_lem index (index_of es) w) in
      let front = (length es + 1) ∷ (all_use es + entry_uses e) ∷ [] in
      let l : length (front ++ (all_words 0 es ++ own)) ≡ at + length own = omega (arith, length-append (all_words 0 es) own, words_length 0 es) in
      let s : sets index at own ≡ length es ∷ all_use es ∷ (all_words 0 es ++ own ++ drop (at + length own) index) = sets-eq own index at n ∙ rw f in
      ap (λ (x : List ℕ). sets x 0 front) s ∙ sym (ap (over index) index_last ∙ ap (λ i. front ++ (all_words 0 es ++ own) ++ drop i index) l)

  -- its units behind the others'
  pub units_more : (units : List ℕ) → units ≡ over units (all_units es) → all_use es + entry_uses e ≤ length units
      → sets units (all_use es) (key_units e.key ++ e.line) ≡ over units (all_units more)
  units_more units t h =
      let own = key_units e.key ++ e.line in
      let n : all_use es + length own ≤ length units = rw (entry_length e) h in
      let f : take (all_use es) units ≡ all_units es = rw (← units_length es) (front_of_lem units (all_units es) t) in
      let l : length (all_units more) ≡ all_use es + length own = units_length more ∙ use_last es e ∙ rw (entry_length e) in
      sets-eq own units (all_use es) n ∙ rw (f, l, units_last)
