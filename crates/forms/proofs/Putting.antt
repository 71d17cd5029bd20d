-- The units of a word, put one after another behind what a lent text holds. Assumes nothing.
use Prim.Native.Nat.{ℕ, ◌+◌, ◌≤◌, ◌<◌, zero-le}
use native.Mathlib.Nat.{add-zero, add-suc}
use native.Mathlib.Numerals.{add-one}
use native.Mathlib.Omega.{arith}
use mathlib.Core.Path.{◌≡◌, refl, sym, ap, ◌∙◌}
use mathlib.Core.Bool.{Bool, true, false}
use mathlib.Core.List.{List, [], ◌∷◌, ◌++◌, append_assoc, append-nil}
use lib.Dec.{eqb}
use lib.ListN.{length, get_or, take, drop, set, length-set, drop_of_length-le}
use lib.Seq.{drop-cons, take-suc-set}
use Rattle.std.specs.Prelude.{Option, Some, None}
use Rattle.rules.specs.Choice.{pick, both}
use Rattle.forms.specs.Form.{step_of}
use Rattle.forms.specs.Text.{behind, at_end, onward, units_from, each_of, is_braces, text_of, Filled}
use Rattle.forms.specs.declared.steps.Spot.{Spot}
use Rattle.forms.specs.declared.steps.Step.{Step}

-- two fronts one behind the other
pub behind_behind : (a b : List ℕ) (t : Option (List ℕ)) → behind (a ++ b) t ≡ behind a (behind b t)
behind_behind a b (Some more) = ap Some (append_assoc a b more)
behind_behind a b None = refl

-- what a byte comes to, and what follows it
next_byte : (colons : Bool) (word : List ℕ) (spot : Spot) (i : ℕ) {s : Option Step} → i < length word → s ≡ step_of colons spot (get_or word i 0)
    → units_from colons spot (drop i word) ≡ onward s (λ next. units_from colons next (drop (i + 1) word))
unfolding units_from
next_byte colons word spot i h e = rw (add-one i, drop-cons word i 0 h, ← e)

-- i bytes are read and n units put, and what is still to be put comes to the same
pub record Putting (colons : Bool) (word : List ℕ) (to : ℕ) (before after : List ℕ) (spot : Spot) (n i : ℕ) : Type 0 where
  pub short : n ≤ i
  pub within : i ≤ length word
  pub room : to + length word ≤ length before
  pub same : length after ≡ length before
  pub still : behind (take (to + n) after) (units_from colons spot (drop i word)) ≡ behind (take to before) (each_of colons word)

module _ {colons : Bool} {word : List ℕ} {to : ℕ} {before : List ℕ} where
  -- at the start none are
  pub none_put : to + length word ≤ length before → Putting colons word to before before Spot.Outside 0 0
  none_put h = record { short = zero-le; within = zero-le; room = h; same = refl; still = rw add-zero }

  -- a byte that makes a unit whole
  pub one_put : {after : List ℕ} {spot : Spot} {n i unit : ℕ} → Putting colons word to before after spot n i → i < length word
      → Some (Step.Unit unit) ≡ step_of colons spot (get_or word i 0) → Putting colons word to before (set after (to + n) unit) Spot.Outside (n + 1) (i + 1)
  one_put {after} {spot} {n} {i} {unit} p h e =
      let m : to + n < length after = omega (arith, p.short, p.room, p.same) in
      let f : take (to + (n + 1)) (set after (to + n) unit) ≡ take (to + n) after ++ (unit ∷ []) = rw (add-one n, add-suc to n) (take-suc-set after (to + n) unit m) in
      record {
        short = omega (arith, p.short);
        within = omega arith;
        room = p.room;
        same = length-set after (to + n) unit ∙ p.same;
        still = rw (f, behind_behind (take (to + n) after) (unit ∷ []), ← next_byte colons word spot i h e) p.still;
      }

  -- a byte inside a form
  pub none_yet : {after : List ℕ} {spot next : Spot} {n i : ℕ} → Putting colons word to before after spot n i → i < length word
      → Some (Step.Still next) ≡ step_of colons spot (get_or word i 0) → Putting colons word to before after next n (i + 1)
  none_yet {after} {spot} {next} {n} {i} p h e =
      record { short = omega (arith, p.short); within = omega arith; room = p.room; same = p.same; still = rw (← next_byte colons word spot i h e) p.still }

  -- a byte that is in no form
  pub no_form : {after : List ℕ} {spot : Spot} {n i : ℕ} → Putting colons word to before after spot n i → i < length word
      → None ≡ step_of colons spot (get_or word i 0) → Filled (each_of colons word) (length word) to None before after
  no_form {after} {spot} {n} {i} p h e =
      record { fills = rw (next_byte colons word spot i h e) at p.still; short = zero-le; same = p.same }

  at_end_lem : {after : List ℕ} {spot : Spot} {n i : ℕ} → Putting colons word to before after spot n i → length word ≤ i
      → behind (take (to + n) after) (at_end spot) ≡ behind (take to before) (each_of colons word)
  unfolding units_from
  at_end_lem {i = i} p h = rw (drop_of_length-le word {i = i} h) at p.still

  -- the end between two units
  pub all_put : {after : List ℕ} {n i : ℕ} → Putting colons word to before after Spot.Outside n i → length word ≤ i
      → Filled (each_of colons word) (length word) to (Some n) before after
  all_put p h = record { fills = rw append-nil at (at_end_lem p h); short = omega (arith, p.short, p.within); same = p.same }

  -- the end inside a form
  pub cut_form : {after : List ℕ} {spot : Spot} {n i : ℕ} → Putting colons word to before after spot n i → length word ≤ i → at_end spot ≡ None
      → Filled (each_of colons word) (length word) to None before after
  cut_form p h e = record { fills = rw e at (at_end_lem p h); short = zero-le; same = p.same }

-- ---- the empty text

-- two bytes are `{}` by each
pub braces_two : (xs : List ℕ) → length xs ≡ 2 → is_braces xs ≡ both (eqb (get_or xs 0 0) 123) (eqb (get_or xs 1 0) 125)
unfolding is_braces
braces_two [] e = absurd (omega arith)
braces_two (x ∷ []) e = absurd (omega arith)
braces_two (x ∷ y ∷ []) e = refl
braces_two (x ∷ y ∷ z ∷ more) e = absurd (omega arith)

-- no others are
pub braces_other : (xs : List ℕ) → (length xs ≡ 2 → ⊥) → is_braces xs ≡ false
unfolding is_braces
braces_other [] e = refl
braces_other (x ∷ []) e = refl
braces_other (x ∷ y ∷ []) e = absurd (e refl)
braces_other (x ∷ y ∷ z ∷ more) e = refl

module _ (colons : Bool) (word : List ℕ) (to : ℕ) (before : List ℕ) where
  -- an empty word is no text
  pub no_text : length word ≡ 0 → Filled (text_of colons word) (length word) to None before before
  unfolding text_of
  no_text e = record { fills = ap (behind (take to before)) (sym (none word e)); short = zero-le; same = refl }
    where
      none : (xs : List ℕ) → length xs ≡ 0 → text_of colons xs ≡ None
      none [] e = refl
      none (x ∷ xs) e = absurd (omega arith)

  some_word : (xs : List ℕ) → (length xs ≡ 0 → ⊥) → text_of colons xs ≡ pick (is_braces xs) (Some []) (each_of colons xs)
  unfolding text_of
  some_word [] e = absurd (e refl)
  some_word (x ∷ xs) e = refl

  -- `{}` is the empty text
  pub empty_text : (length word ≡ 0 → ⊥) → is_braces word ≡ true → Filled (text_of colons word) (length word) to (Some 0) before before
  empty_text e b = record { fills = rw (some_word word e, b, append-nil, add-zero); short = zero-le; same = refl }

  -- any other is its units
  pub full_text : (length word ≡ 0 → ⊥) → is_braces word ≡ false → {r : Option ℕ} {after : List ℕ} → Filled (each_of colons word) (length word) to r before after
      → Filled (text_of colons word) (length word) to r before after
  full_text e b f = rw (some_word word e, b) f
