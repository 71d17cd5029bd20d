-- An entry is refused, or added. Assumes nothing.
use Rattle.std.specs.Prelude.{Ok, Err}
use Prim.Native.Nat.{ℕ, ◌+◌, ◌-◌, ◌*◌, ◌≤◌, ◌<◌, min}
use native.Mathlib.Omega.{arith}
use mathlib.Core.Path.{◌≡◌, refl, sym, ap, ◌∙◌}
use mathlib.Core.Bool.{Bool, true, false}
use mathlib.Core.List.{List, [], ◌∷◌, ◌++◌}
use lib.Dec.{eqb, ltb, leb}
use lib.ListN.{length, get_or, take, drop, length-append, length-drop, take-append-drop}
use lib.Seq.{sets, length-sets}
use borrow.Author.Tests.{ne_eqb, lt-ltb, le-ltb, leb-false}
use Rattle.rules.specs.declared.Refusal.{Refusal}
use Rattle.rules.specs.declared.Cached.TheVariants as Cached
use Rattle.rules.specs.Choice.{pick}
use Rattle.rules.specs.Outcome.{Outcome, done, refused, refuse, over}
use Rattle.rules.specs.Answer.{Said, refusal, wrote, refusal_number, refusal_place, refusal_said, Answered}
use Rattle.rules.specs.Record.{arguments_of}
use Rattle.rules.specs.Building.{command_line}
use Rattle.rules.specs.Key.{Launch, Key, key_of, launch_line}
use Rattle.rules.specs.Cache.{CacheEntry, cache_entry, key_size, entry_uses, all_use, Served, stored, adding, stored_in}
use Rattle.rules.specs.Store.{code_of, key_units, flag_word, entry_words, Represents, cached_said}
use Rattle.laws.specs.Store.{part_is, back_is, sets_append, sets_rest, sets_front, sets_swap}
use Rattle.laws.specs.Keys.{key_length_lem}
use Rattle.laws.specs.Entries.{count_is, used_is, used_within, index_more, units_more}
use Rattle.laws.specs.Prepared.{BuiltLine, lined, Unbuilt, passes, narrow, unbuilt, BuiltInto, built_into}
use Rattle.keys.specs.Laid.{laid_arguments, laid_whole}
use Rattle.storing.specs.Added.{refusal_for, EntryPut, adding_new, Adds}

-- ---- the rest of the units, lent to the builder

-- the rest from a place on, as the code's rule has it
abbrev pub rest_of : ℕ → List ℕ → List ℕ
rest_of start units = take (length units - start) (drop start units)

-- the units with that rest back
abbrev pub back_of : ℕ → List ℕ → List ℕ → List ℕ
back_of start units rest = take start units ++ (rest ++ drop (length units - start) (drop start units))

rest_length : (start : ℕ) (units : List ℕ) → length (rest_of start units) ≡ length units - start
rest_length start units = rw (part_is start units) (length-drop start units)

-- nothing has changed
rest_kept : (start : ℕ) (units rest : List ℕ) → rest ≡ rest_of start units → back_of start units rest ≡ units
rest_kept start units rest e = back_is start units rest ∙ rw (e, part_is start units, take-append-drop start units)

-- a line lies over it
rest_over : (start : ℕ) (units rest whole : List ℕ) → start ≤ length units → length whole ≤ length (rest_of start units) → rest ≡ over (rest_of start units) whole
    → back_of start units rest ≡ sets units start whole
rest_over start units rest whole h f e =
    let l : rest ≡ over (drop start units) whole = e ∙ ap (λ (x : List ℕ). over x whole) (part_is start units) in
    let s : rest ≡ sets (drop start units) 0 whole = l ∙ sym (sets_front (drop start units) whole (rw (part_is start units) at f)) in
    back_is start units rest ∙ ap (λ (x : List ℕ). take start units ++ x) s ∙ sets_rest units whole start h

-- a key that is put before a line that is there already: both one after another
key_then_line : (units back own whole : List ℕ) (used start : ℕ) → start ≡ used + length own → back ≡ sets units start whole
    → sets back used own ≡ sets units used (own ++ whole)
key_then_line units back own whole used start s o =
    ap (λ (x : List ℕ). sets x used own) o ∙ sets_swap units own whole used start (omega arith) ∙ rw s (sym (sets_append units used own whole))

-- ---- which refusal

-- a refusal that is not 4 passes through
passing : (full : Bool) (q : Refusal) {number place : ℕ} → ¬ (number ≡ 4) → refusal_said q ≡ refusal number place
    → cached_said (Err (refusal_for full q)) ≡ refused number place
passing full q {number} {place} h e =
    let m : refusal_number q ≡ number = ap (λ (s : Said). s.number) e in
    let p : refusal_place q ≡ place = ap (λ (s : Said). s.place) e in
    let n : eqb (refusal_number q) 4 ≡ false = rw m (ne_eqb number 4 h) in
    rw (n, m, p)

-- 4 is 3 where all entries are used
telling : (full : Bool) (q : Refusal) → refusal_said q ≡ refusal 4 0 → cached_said (Err (refusal_for full q)) ≡ refused (pick full 3 4) 0
telling full q e =
    let m : refusal_number q ≡ 4 = ap (λ (s : Said). s.number) e in
    let n : eqb (refusal_number q) 4 ≡ true = rw m in
    rw n (go full)
  where
    go : (full : Bool) → cached_said (Err (pick full Refusal.Places Refusal.Room)) ≡ refused (pick full 3 4) 0
    go true = refl
    go false = refl

-- ---- an entry more

-- what the code has found before it builds: whether all entries are used, how many units are, how many the key has as far as there is room for it, and
-- where the line starts
pub record Begun (places : ℕ) (lent : Launch) (index units : List ℕ) (full : Bool) (used size start : ℕ) : Type 0 where
  pub fulls : full ≡ leb places (get_or index 0 0)
  pub useds : used ≡ min (length units) (get_or index 1 0)
  pub sizes : size ≡ min (length units - used) (length (lent.program ++ code_of (arguments_of lent.text lent.records)))
  pub starts : start ≡ pick full (length units) (used + size)

module _ {places : ℕ} (fingerprint : ℕ) (lent : Launch) {index units : List ℕ} {full : Bool} {used size start : ℕ}
    (b : Begun places lent index units full used size start) where
  abbrev key : Key
  key = key_of lent

  abbrev entry : CacheEntry
  entry = cache_entry fingerprint key

  -- the key's units
  key_units_lem : lent.program ++ code_of (arguments_of lent.text lent.records) ≡ key_units key
  unfolding key_units
  key_units_lem = refl

  size_is : size ≡ min (length units - used) (key_size key)
  size_is = b.sizes ∙ rw (key_units_lem, key_length_lem key)

  uses_are : entry_uses entry ≡ key_size key + length (launch_line key)
  unfolding entry_uses
  uses_are = refl

  used_are : (es : List CacheEntry) → Represents places index units es → used ≡ all_use es
  used_are es r = omega (arith, b.useds, used_is r, used_within r)

  -- the line starts within the units
  pub start_within : start ≤ length units
  start_within = go full b.starts
    where
      go : (f : Bool) → start ≡ pick f (length units) (used + size) → start ≤ length units
      go true e = omega arith
      go false e = omega (arith, b.useds, b.sizes)

  -- ---- it is refused

  narrowed : (es : List CacheEntry) → Represents places index units es → (whole : List ℕ) → launch_line key ≡ whole → length units - start < length whole
      → refused (pick full 3 4) 0 ≡ adding places (length units) entry es
  unfolding adding
  narrowed es r whole e l = go full refl
    where
      go : (f : Bool) → full ≡ f → refused (pick f 3 4) 0 ≡ refuse 3 (leb places (length es))
          (refuse 4 (ltb (length units - all_use es) (entry_uses entry)) (done (stored (all_use es + key_size key) (length (launch_line key)))))
      go true f =
          let t : leb places (length es) ≡ true = rw (← count_is r) (sym b.fulls ∙ f) in
          rw t
      go false f =
          let t : leb places (length es) ≡ false = rw (← count_is r) (sym b.fulls ∙ f) in
          let z : start ≡ used + size = b.starts ∙ rw f in
          let m : length (launch_line key) ≡ length whole = ap length e in
          let w : length units - all_use es < entry_uses entry = omega (arith, b.useds, used_is r, used_within r, size_is, uses_are) in
          rw (t, lt-ltb (length units - all_use es) (entry_uses entry) w)

  refused_says : (q : Refusal) → Unbuilt lent (length units - start) q → (es : List CacheEntry) → Represents places index units es
      → cached_said (Err (refusal_for full q)) ≡ adding_new places (length units) fingerprint lent es
  unfolding adding_new
  refused_says q (passes number place e n said) es r = passing full q n said ∙ rw e
  refused_says q (narrow whole e l said) es r = telling full q said ∙ narrowed es r whole (lined lent whole e).made l ∙ rw e

  -- where a refusal is said, the entries stay
  stays : (o : Outcome Served) {number place : ℕ} (es : List CacheEntry) → refused number place ≡ o → stored_in o entry es ≡ es
  stays o es e = rw (← e)

  pub add_refused : (q : Refusal) {rest : List ℕ}
      → Answered (command_line lent.force lent.program lent.records lent.text (length (rest_of start units))) (refusal_said q) (rest_of start units) rest
      → Adds places fingerprint lent (Err (refusal_for full q)) index units index (back_of start units rest)
  add_refused q {rest} a =
      let (u, same) = unbuilt lent (rest_of start units) rest {q = q} a in
      let says = refused_says q (rw (rest_length start units) at u) in
      rw (rest_kept start units rest same)
      (record {
        says = says;
        leaves = λ es r.
            let k = stays (adding_new places (length units) fingerprint lent es) es (says es r) in
            rw k (record { words = r.words; texts = r.texts });
        keeps = λ _. (refl, refl);
        lies = tt;
      })

  -- ---- it is added

  module _ {n : ℕ} {rest : List ℕ}
      (a : Answered (command_line lent.force lent.program lent.records lent.text (length (rest_of start units))) (wrote n) (rest_of start units) rest) where
    into : BuiltInto lent n (rest_of start units) rest
    into = built_into lent (rest_of start units) rest a

    line_is : BuiltLine lent into.whole
    line_is = lined lent into.whole into.made

    fits : n ≤ length units - start
    fits = rw (rest_length start units) at into.fits

    -- entries are left
    not_full : (f : Bool) → full ≡ f → full ≡ false
    not_full false f = f
    not_full true f =
        let z : start ≡ length units = b.starts ∙ rw f in
        absurd (omega (arith, fits, into.counts, line_is.some))

    pub places_left : get_or index 0 0 < places
    places_left = leb-false places (get_or index 0 0) (sym b.fulls ∙ not_full full refl)

    start_is : start ≡ used + size
    start_is = b.starts ∙ rw (not_full full refl)

    -- the key has its whole length
    size_whole : size ≡ key_size key
    size_whole = omega (arith, size_is, b.useds, start_is, fits, into.counts, line_is.some)

    pub all_fits : used + (size + n) ≤ length units
    all_fits = omega (arith, start_is, fits, into.counts, line_is.some)

    -- kinds and lengths are units
    laid_is : lent.program ++ laid_arguments (arguments_of lent.text lent.records) ≡ key_units key
    laid_is = ap (λ (x : List ℕ). lent.program ++ x) (laid_whole lent line_is) ∙ key_units_lem

    -- the units with the line in them
    back_is_set : back_of start units rest ≡ sets units start into.whole
    back_is_set = rest_over start units rest into.whole start_within (rw into.counts into.fits) into.lies

    pub key_fits : used + (length lent.program + length (laid_arguments (arguments_of lent.text lent.records))) ≤ length (back_of start units rest)
    key_fits =
        let same : length (back_of start units rest) ≡ length units = ap length back_is_set ∙ length-sets units start into.whole in
        omega (arith, same, all_fits, size_whole, ap length laid_is, key_length_lem key, length-append lent.program (laid_arguments (arguments_of lent.text lent.records)))

    line_length : length (launch_line key) ≡ n
    line_length = ap length line_is.made ∙ into.counts

    -- what was put
    module _ {index' units' : List ℕ} (w : EntryPut (get_or index 0 0) used (fingerprint ∷ flag_word lent.force ∷ length lent.program ∷ used ∷ size ∷ n ∷ []) (used + (size + n)) index index')
        (t : units' ≡ sets (back_of start units rest) used (lent.program ++ laid_arguments (arguments_of lent.text lent.records))) where
      says : (es : List CacheEntry) → Represents places index units es → cached_said (Ok (Cached.Stored start n)) ≡ adding_new places (length units) fingerprint lent es
      unfolding adding_new adding
      says es r =
          let l : leb places (length es) ≡ false = rw (← count_is r) (sym b.fulls ∙ not_full full refl) in
          let f : entry_uses entry ≤ length units - all_use es = omega (arith, all_fits, uses_are, used_are es r, size_whole, line_length) in
          let p : all_use es + key_size key ≡ start = omega (arith, used_are es r, start_is, size_whole) in
          rw (into.made, l, le-ltb (length units - all_use es) (entry_uses entry) f, p, line_length)

      units_are : units' ≡ sets units used (key_units key ++ launch_line key)
      units_are =
          let s : start ≡ used + length (key_units key) = start_is ∙ rw (size_whole, key_length_lem key) in
          t ∙ ap (sets (back_of start units rest) used) laid_is ∙ key_then_line units (back_of start units rest) (key_units key) into.whole used start s back_is_set
          ∙ ap (λ (x : List ℕ). sets units used (key_units key ++ x)) (sym line_is.made)

      words_are : (es : List CacheEntry) → Represents places index units es
          → index' ≡ sets (sets index (2 + 6 * length es) (entry_words (all_use es) entry)) 0 ((length es + 1) ∷ (all_use es + entry_uses entry) ∷ [])
      unfolding entry_words
      words_are es r =
          let u : used + (size + n) ≡ all_use es + entry_uses entry = omega (arith, used_are es r, size_whole, line_length, uses_are) in
          w.puts ∙ rw (u, count_is r, used_are es r, size_whole, line_length)

      pub add_added : 2 + 6 * places ≤ length index → Adds places fingerprint lent (Ok (Cached.Stored start n)) index units index' units'
      add_added h =
          record {
            says = says;
            leaves = λ es r.
                let c : length es < places = rw (← count_is r) places_left in
                let f : all_use es + entry_uses entry ≤ length units = omega (arith, all_fits, uses_are, used_are es r, size_whole, line_length) in
                let k : stored_in (adding_new places (length units) fingerprint lent es) entry es ≡ es ++ entry ∷ [] = ap (λ o. stored_in o entry es) (sym (says es r)) in
                rw k
                (record {
                  words = words_are es r ∙ index_more es entry index r.words (omega arith);
                  texts = units_are ∙ ap (λ u. sets units u (key_units key ++ launch_line key)) (used_are es r) ∙ units_more es entry units r.texts f;
                });
            keeps = λ x. let z : ◌≡◌ {A = ℕ} 0 1 = cc in absurd (omega arith);
            lies = omega (arith, start_is, all_fits);
          }
