-- Bytes put one after another into a piece. Assumes nothing.
use Prim.Native.Nat.{ℕ, ◌+◌, ◌-◌, ◌≤◌, ◌<◌}
use native.Mathlib.Nat.{zero-add}
use native.Mathlib.Numerals.{add-one}
use native.Mathlib.Omega.{arith}
use mathlib.Core.Path.{◌≡◌, refl, sym, ap, ◌∙◌}
use mathlib.Core.Bool.{Bool, true, false}
use mathlib.Core.List.{List, [], ◌∷◌, ◌++◌}
use lib.Dec.{leb, eqb, ltb}
use lib.ListN.{length, get_or, take, drop, set, drop_of_length-le, length-set}
use lib.Seq.{drop-cons, take_at}
use borrow.Author.Tests.{leb-true, lt-ltb, le-ltb}
use Rattle.rules.specs.Choice.{pick, both, either, flip}
use Rattle.laws.specs.Placed.{Placed}
use Rattle.laws.specs.Store.{sets_front}
use Rattle.rules.specs.Record.{part}
use Rattle.forms.specs.Form.{is_plain, each, shown, shown_unit}
use Rattle.replies.specs.Page.{Page, page, on_page, put_on, put_all, Puts}
use Rattle.replies.specs.Show.{separator_of, colons_of, after_of, texts_in, texts_bytes}
use Rattle.replies.specs.declared.places.Place.{Place}
use Rattle.replies.specs.declared.answers.Manner.{Manner}

-- ---- parts one after another

put_append : (g : Page) (a b : List ℕ) → put_all g (a ++ b) ≡ put_all (put_all g a) b
unfolding put_all
put_append g [] b = refl
put_append g (x ∷ a) b = put_append (put_on g x) a b

-- no place of the piece is gained or lost
same_length : (g : Page) (bytes : List ℕ) → length (put_all g bytes).piece ≡ length g.piece
unfolding put_all put_on
same_length g [] = refl
same_length g (x ∷ bytes) = same_length (put_on g x) bytes ∙ go (ltb 0 g.skip) (ltb g.at (length g.piece))
  where
    go : (a b : Bool) → length (pick a (page (g.skip - 1) g.at g.piece) (pick b (page g.skip (g.at + 1) (set g.piece g.at x)) g)).piece ≡ length g.piece
    go true b = refl
    go false true = length-set g.piece g.at x
    go false false = refl

-- nothing
pub none_put : (p : Place) (d : List ℕ) → Puts [] p p d d
unfolding put_all
none_put p d = record { puts = refl }

-- one part and then another
pub both_put : {a b : List ℕ} {p q r : Place} {d e f : List ℕ} → Puts a p q d e → Puts b q r e f → Puts (a ++ b) p r d f
both_put {a} {b} {p} {d = d} u v = record { puts = v.puts ∙ rw u.puts (sym (put_append (on_page p d) a b)) }

-- ---- one byte

module _ (p : Place) (d : List ℕ) (x : ℕ) where
  -- that is skipped
  pub skipped : 0 < p.skip → Puts (x ∷ []) p (record { skip = p.skip - 1; at = p.at }) d d
  unfolding put_all put_on
  skipped h = record { puts = rw (lt-ltb 0 p.skip h) }

  -- that is stored
  pub stored : p.skip ≤ 0 → p.at < length d → Puts (x ∷ []) p (record { skip = p.skip; at = p.at + 1 }) d (set d p.at x)
  unfolding put_all put_on
  stored h l = record { puts = rw (le-ltb 0 p.skip h, lt-ltb p.at (length d) l) }

  -- for which there is no room
  pub dropped : p.skip ≤ 0 → length d ≤ p.at → Puts (x ∷ []) p p d d
  unfolding put_all put_on
  dropped h l = record { puts = rw (le-ltb 0 p.skip h, le-ltb p.at (length d) l) }

-- ---- loops

-- putting what is left would leave what putting the whole from the start leaves
pub record Still (whole rest : List ℕ) (p₀ p : Place) (d₀ d : List ℕ) : Type 0 where
  pub still : put_all (on_page p d) rest ≡ put_all (on_page p₀ d₀) whole

-- at the start all is left
pub all_left : (whole : List ℕ) (p : Place) (d : List ℕ) → Still whole whole p p d d
all_left whole p d = record { still = refl }

-- no place is gained or lost
pub same_still : {whole rest : List ℕ} {p₀ p : Place} {d₀ d : List ℕ} → Still whole rest p₀ p d₀ d → length d ≡ length d₀
same_still {whole} {rest} {p₀} {p} {d₀} {d} s =
    sym (same_length (on_page p d) rest) ∙ ap (λ (g : Page). length g.piece) s.still ∙ same_length (on_page p₀ d₀) whole

module _ {whole : List ℕ} {p₀ p q : Place} {d₀ d e : List ℕ} where
  less_left : {a b : List ℕ} → Still whole (a ++ b) p₀ p d₀ d → Puts a p q d e → Still whole b p₀ q d₀ e
  less_left {a} {b} s u = record { still = rw u.puts (sym (put_append (on_page p d) a b) ∙ s.still) }

  -- one element more
  pub each_step : {A : Type 0} (f : A → List ℕ) (xs : List A) (i : ℕ) (x : A) → Still whole (each f (drop i xs)) p₀ p d₀ d → i < length xs → x ≡ get_or xs i x
      → Puts (f x) p q d e → Still whole (each f (drop (i + 1) xs)) p₀ q d₀ e
  unfolding each
  each_step f xs i x s h n u = rw (add-one i) (less_left (rw (drop-cons xs i x h, ← n) at s) u)

  -- one text more
  pub texts_step : (m : Manner) (out rest : List ℕ) → Still whole (texts_bytes m (texts_in out rest)) p₀ p d₀ d → 2 ≤ length rest
      → Puts (separator_of m ∷ shown (colons_of m) (part out (get_or rest 0 0) (get_or rest 1 0))) p q d e
      → Still whole (texts_bytes (after_of m) (texts_in out (drop 2 rest))) p₀ q d₀ e
  unfolding texts_bytes texts_in
  texts_step m out [] s h u = absurd (omega arith)
  texts_step m out (start ∷ []) s h u = absurd (omega arith)
  texts_step m out (start ∷ size ∷ more) s h u = less_left s u

-- a table of one number or none names no text
few : (m : Manner) (out xs : List ℕ) → length xs ≤ 1 → texts_bytes m (texts_in out xs) ≡ []
unfolding texts_bytes texts_in
few m out [] l = refl
few m out (x ∷ []) l = refl
few m out (x ∷ y ∷ xs) l = absurd (omega arith)

module _ {whole : List ℕ} {p₀ p : Place} {d₀ d : List ℕ} where
  none_left : Still whole [] p₀ p d₀ d → Puts whole p₀ p d₀ d
  unfolding put_all
  none_left s = record { puts = s.still }

  -- no element is left
  pub each_done : {A : Type 0} (f : A → List ℕ) (xs : List A) (i : ℕ) → Still whole (each f (drop i xs)) p₀ p d₀ d → length xs ≤ i → Puts whole p₀ p d₀ d
  unfolding each
  each_done f xs i s h = none_left (rw (drop_of_length-le xs {i = i} h) at s)

  -- no text is left
  pub texts_done : (m : Manner) (out rest : List ℕ) → Still whole (texts_bytes m (texts_in out rest)) p₀ p d₀ d → length rest < 2 → Puts whole p₀ p d₀ d
  texts_done m out rest s h = none_left (rw (few m out rest (omega arith)) at s)

-- a run is each of its bytes
pub run_is : (xs : List ℕ) → each (λ x. x ∷ []) xs ≡ xs
unfolding each
run_is [] = refl
run_is (x ∷ xs) = ap (λ (l : List ℕ). x ∷ l) (run_is xs)

-- ---- items

-- what was placed in an item of its own is its front
pub front_is : {w d e : List ℕ} {n : ℕ} → Placed w 0 n d e → length w ≤ length d → take n e ≡ w
front_is {w} {d} p h = let n = p.ends ∙ zero-add _ in rw (p.stores, sets_front d w h) (take_at w (drop (length w) d) _ (sym n))

-- a unit that stands for itself is a byte
pub plain_small : (colons : Bool) (x : ℕ) → is_plain colons x ≡ true → x ≤ 126
unfolding is_plain
plain_small colons x e =
    let more = both (flip (either (eqb x 123) (eqb x 125))) (either (flip (eqb x 58)) colons) in
    go (leb 33 x) (leb x 126) more (leb-true x 126) e
  where
    go : (a b more : Bool) → (b ≡ true → x ≤ 126) → both (both a b) more ≡ true → x ≤ 126
    go true true more f e = f refl
    go true false more f e = absurd (let z : ◌≡◌ {A = ℕ} 0 1 = cc in omega arith)
    go false b more f e = absurd (let z : ◌≡◌ {A = ℕ} 0 1 = cc in omega arith)

-- a text that is not empty is its units
pub text_is : (colons : Bool) (text : List ℕ) → (length text ≡ 0 → ⊥) → shown colons text ≡ each (shown_unit colons) text
unfolding shown
text_is colons [] e = absurd (e refl)
text_is colons (x ∷ text) e = refl

-- an empty one is `{}`
pub empty_is : (colons : Bool) (text : List ℕ) → length text ≡ 0 → shown colons text ≡ 123 ∷ 125 ∷ []
unfolding shown
empty_is colons [] e = refl
empty_is colons (x ∷ text) e = absurd (omega arith)
