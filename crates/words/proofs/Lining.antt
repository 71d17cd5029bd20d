-- The words of a line one after another, and the rows of a table. Assumes nothing.
use Prim.Native.Nat.compare
use Prim.Native.Nat.{ℕ, suc, ◌+◌, ◌-◌, ◌≤◌, ◌<◌}
use native.Mathlib.Nat.{lt_of_not-le}
use native.Mathlib.Numerals.{add-one}
use native.Mathlib.Decide.{dec_le}
use native.Mathlib.Omega.{arith}
use mathlib.Core.Path.{◌≡◌, refl, sym, ◌∙◌}
use mathlib.Core.Bool.{Bool, true, false}
use mathlib.Core.List.{List, [], ◌∷◌}
use lib.Dec.{eqb, leb, ltb}
use lib.ListN.{length, get_or, take, drop, length-drop, length-take, drop_of_length-le}
use lib.Seq.{drop-drop}
use Rattle.std.specs.List.{position, position_or_len}
use borrow.Author.Tests.{le-leb, lt-leb, lt-ltb, le-ltb}
use Rattle.std.specs.Prelude.{Some, None, cond, not, option_map}
use Rattle.std.proofs.lemmas.Bool.Decides.{nat_tests}
use Rattle.rules.specs.Choice.{pick, flip, equal}
use Rattle.laws.specs.Store.{part_is}
use Rattle.laws.specs.Scan.{leading, before, leading_in}
use Rattle.words.specs.Word.{onto, words_of, words_at}
use Rattle.fields.specs.Field.{held_in, Grew}
use Rattle.words.specs.Shape.{shape_at, shape_on}
use Rattle.words.specs.Line.{words_by, none, verb_in, letters_in, row_of, line_on, Ends, Took, Lined}
use Rattle.fields.specs.declared.taking.Held.{Held}

-- ---- where a word ends

abbrev space_in : List ℕ → ℕ
space_in xs = before (λ x. eqb x 32) xs

-- a line's first word, and those behind it
pub first_word : (xs : List ℕ) → words_of xs ≡ take (space_in xs) xs ∷ pick (ltb (space_in xs) (length xs)) (words_of (drop (space_in xs + 1) xs)) []
unfolding words_of leading
first_word [] = refl
first_word (x ∷ xs) = go (eqb x 32) (first_word xs)
  where
    go : (b : Bool) → words_of xs ≡ take (space_in xs) xs ∷ pick (ltb (space_in xs) (length xs)) (words_of (drop (space_in xs + 1) xs)) []
        → pick b ([] ∷ words_of xs) (onto x (words_of xs))
        ≡ take (pick (flip b) (suc (space_in xs)) 0) (x ∷ xs)
        ∷ pick (ltb (pick (flip b) (suc (space_in xs)) 0) (suc (length xs))) (words_of (drop (pick (flip b) (suc (space_in xs)) 0 + 1) (x ∷ xs))) []
    go true e = rw (lt-ltb 0 (suc (length xs)) (omega arith))
    go false e = rw (e, compare.suc-suc, add-one (suc (space_in xs)), add-one (space_in xs))

-- the word that starts at an index ends at the next space
pub word_ends : (line : List ℕ) (at size : ℕ) → at ≤ length line → size ≡ space_in (take (length line - at) (drop at line)) → Ends line at (at + size)
unfolding words_at
word_ends line at size h e₀ =
    let rest = drop at line in
    let e : size ≡ space_in rest = rw (part_is at line) at e₀ in
    let l : space_in rest ≤ length rest = leading_in (λ x. flip (eqb x 32)) rest in
    let n : length rest ≡ length line - at = length-drop at line in
    let d : at + size - at ≡ size = omega arith in
    let k : at + (size + 1) ≡ at + size + 1 = omega arith in
    let f : drop (size + 1) rest ≡ drop (at + size + 1) line = drop-drop (size + 1) at line ∙ rw k in
    record {
      behind = omega arith;
      within = omega arith;
      splits = rw (le-leb at (length line) h, first_word rest, ← e, f, d, n, same (dec_le (at + size + 1) (length line)));
    }
  where
    same : Dec (at + size + 1 ≤ length line) → ltb size (length line - at) ≡ leb (at + size + 1) (length line)
    same (yes g) = lt-ltb size (length line - at) (omega arith) ∙ sym (le-leb (at + size + 1) (length line) g)
    same (no g) =
        let k = lt_of_not-le g in
        le-ltb size (length line - at) (omega arith) ∙ sym (lt-leb (at + size + 1) (length line) k)

-- past the end there is no word
pub no_word : (line : List ℕ) (at : ℕ) → length line < at → words_at line at ≡ []
unfolding words_at
no_word line at h = rw (lt-leb at (length line) h)

-- a part up to an end has no more elements than the list has up to there
pub length_part : (xs : List ℕ) (at end : ℕ) → length (take (end - at) (drop at xs)) ≤ end - at
length_part xs at end = rw length-take (omega arith)

-- ---- word after word

-- so many words are taken, and what is held and what is left comes to the same as all from the start
pub record Going (letters line : List ℕ) (start : ℕ) (text₀ numbers₀ text numbers : List ℕ) (at i : ℕ) (h : Held) : Type 0 where
  pub units : h.units < at
  pub counts : h.count < at
  pub index : i < at
  pub few : i ≤ length line
  pub texts : h.units ≤ length text
  pub lists : h.count ≤ length numbers
  pub same_text : length text ≡ length text₀
  pub same_numbers : length numbers ≡ length numbers₀
  pub still : words_by letters i (held_in h text numbers) (words_at line at) ≡ words_by letters 0 none (words_at line start)

module _ {letters line : List ℕ} {start : ℕ} {text₀ numbers₀ : List ℕ} where
  -- at the start none are
  pub none_gone : 0 < start → Going letters line start text₀ numbers₀ text₀ numbers₀ start 0 (record { units = 0; count = 0 })
  none_gone h =
      record { units = h; counts = h; index = h; few = omega arith; texts = omega arith; lists = omega arith; same_text = refl; same_numbers = refl; still = refl }

  module _ {text numbers text' numbers' : List ℕ} {at i end : ℕ} {h : Held} (g : Going letters line start text₀ numbers₀ text numbers at i h) (e : Ends line at end) where
    -- a word more
    pub one_gone : {k : Held} → at ≤ length line → length line ≤ length text₀ → length line ≤ length numbers₀ → length text' ≡ length text → length numbers' ≡ length numbers
        → Grew (shape_on (shape_at letters i) (held_in h text numbers) (take (end - at) (drop at line))) (length (take (end - at) (drop at line))) h (Some k) text' numbers'
        → Going letters line start text₀ numbers₀ text' numbers' (end + 1) (i + 1) k
    unfolding words_by
    one_gone l t n a b w =
        let s = length_part line at end in
        record {
          units = omega (arith, w.within.0, g.units, e.behind);
          counts = omega (arith, w.within.1, g.counts, e.behind);
          index = omega (arith, g.index, e.behind);
          few = omega (arith, g.index);
          texts = omega (arith, w.within.0, g.units, e.behind, e.within, g.same_text);
          lists = omega (arith, w.within.1, g.counts, e.behind, e.within, g.same_numbers);
          same_text = a ∙ g.same_text;
          same_numbers = b ∙ g.same_numbers;
          still = sym (rw (e.splits, ← w.says)) ∙ g.still;
        }

    -- a word that no letter stands for
    pub no_letter : None ≡ shape_at letters i → Took (words_by letters 0 none (words_at line start)) None text' numbers'
    unfolding words_by shape_on
    no_letter n = record { says = sym (rw (e.splits, ← n)) ∙ g.still; within = tt }

    -- a word that is in no form
    pub ill_gone : Grew (shape_on (shape_at letters i) (held_in h text numbers) (take (end - at) (drop at line))) (length (take (end - at) (drop at line))) h None text' numbers'
        → Took (words_by letters 0 none (words_at line start)) None text' numbers'
    unfolding words_by
    ill_gone w = record { says = sym (rw (e.splits, ← w.says)) ∙ g.still; within = tt }

  module _ {text numbers : List ℕ} {at i : ℕ} {h : Held} (g : Going letters line start text₀ numbers₀ text numbers at i h) (l : length line < at) where
    -- a word is missing
    pub few_gone : i + 1 < length letters → Took (words_by letters 0 none (words_at line start)) None text numbers
    unfolding words_by
    few_gone m = record { says = sym (rw (no_word line at l, lt-ltb (i + 1) (length letters) m)) ∙ g.still; within = tt }

    -- no word is left
    pub all_gone : length letters ≤ i + 1 → Took (words_by letters 0 none (words_at line start)) (Some h) text numbers
    unfolding words_by
    all_gone m = record { says = sym (rw (no_word line at l, le-ltb (i + 1) (length letters) m)) ∙ g.still; within = (g.texts, g.lists) }

-- ---- rows

-- a row's verb
pub verb_is : (row : List ℕ) → verb_in row ≡ take (space_in row) row
verb_is row = rw (first_word row)

-- a row's letters: its second word
pub letters_are : (row : List ℕ) → letters_in row ≡ take (space_in (drop (space_in row + 1) row)) (drop (space_in row + 1) row)
unfolding leading
letters_are row = rw (first_word row) (go (dec_le (length row) (space_in row)))
  where
    rest : List ℕ
    rest = drop (space_in row + 1) row

    go : Dec (length row ≤ space_in row) → get_or (pick (ltb (space_in row) (length row)) (words_of rest) []) 0 [] ≡ take (space_in rest) rest
    go (yes l) = rw (le-ltb (space_in row) (length row) l, drop_of_length-le row {i = space_in row + 1} (omega arith))
    go (no l) = rw (lt-ltb (space_in row) (length row) (lt_of_not-le l), first_word rest)

-- a row more in front of those that the library looks through
one_more : (b : Bool) (n l : ℕ) → pick b (Some 0) (option_map suc (cond (ltb n l) (Some n) None))
    ≡ cond (ltb (cond (not b) (1 + n) 0) (suc l)) (Some (cond (not b) (1 + n) 0)) None
one_more true n l = grind (arith, nat_tests)
one_more false n l = grind (arith, nat_tests)

-- the library's search for a row
pub row_found : (rows : List (List ℕ)) (word : List ℕ) → row_of rows word ≡ position (λ row. equal (verb_in row) word) rows
unfolding row_of
row_found [] word = refl
row_found (row ∷ rows) word = rw (row_found rows word) (one_more (equal (verb_in row) word) (position_or_len (λ row. equal (verb_in row) word) rows) (length rows))

-- ---- a whole line

-- a line's words, the first of which ends there
words_are : (line : List ℕ) (end : ℕ) → Ends line 0 end → words_of line ≡ take end line ∷ words_at line (end + 1)
unfolding words_at
words_are line end e = let z : end - 0 ≡ end = omega arith in rw (le-leb 0 (length line) (omega arith), z) at e.splits

module _ (rows : List (List ℕ)) (line : List ℕ) (longest : ℕ) {text numbers : List ℕ} where
  -- one that is too long
  pub long_line : longest < length line → Lined (pick (ltb longest (length line)) None (line_on rows line)) None text numbers
  long_line h = record { says = rw (lt-ltb longest (length line) h); within = tt }

  module _ {end : ℕ} (l : length line ≤ longest) (e : Ends line 0 end) where
    -- one whose verb no row has
    pub no_row : None ≡ row_of rows (take end line) → Lined (pick (ltb longest (length line)) None (line_on rows line)) None text numbers
    unfolding line_on
    no_row r = record { says = rw (le-ltb longest (length line) l, words_are line end e, ← r); within = tt }

    module _ {row : ℕ} {letters : List ℕ} (r : Some row ≡ row_of rows (take end line)) (a : letters ≡ letters_in (get_or rows row [])) where
      -- one whose words are not in their forms
      pub ill_line : Took (words_by letters 0 none (words_at line (end + 1))) None text numbers → Lined (pick (ltb longest (length line)) None (line_on rows line)) None text numbers
      unfolding line_on
      ill_line w = record { says = rw (le-ltb longest (length line) l, words_are line end e, ← r, ← a, ← w.says); within = tt }

      -- one whose words are
      pub line_by : {k : Held} → Took (words_by letters 0 none (words_at line (end + 1))) (Some k) text numbers
          → Lined (pick (ltb longest (length line)) None (line_on rows line)) (Some (record { row = row; held = k })) text numbers
      unfolding line_on
      line_by w = record { says = rw (le-ltb longest (length line) l, words_are line end e, ← r, ← a, ← w.says); within = w.within }
