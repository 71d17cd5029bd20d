-- Numbers, met one byte after another. Assumes nothing.
use Prim.Native.Nat.{ℕ, suc, ◌+◌, ◌-◌, ◌*◌, ◌≤◌, ◌<◌, zero-le}
use native.Mathlib.Numerals.{add-one}
use native.Mathlib.Omega.{arith}
use mathlib.Core.Path.{◌≡◌, refl, sym, ◌∙◌}
use mathlib.Core.Bool.{Bool, true, false}
use mathlib.Core.List.{List, [], ◌∷◌}
use lib.Dec.{eqb, leb}
use lib.ListN.{length, get_or, drop, drop_of_length-le}
use lib.Seq.{drop-cons}
use borrow.Author.Tests.{leb-true}
use Rattle.std.specs.Prelude.{Some, None}
use Rattle.std.proofs.lemmas.Option.{none-some, same_Some}
use Rattle.rules.specs.Choice.{pick, both, flip}
use Rattle.forms.specs.Number.{digit_fits, longer, number_from, is_numeral, Numbered}

-- i digits are read, and what is left decides
pub record Counting (most : ℕ) (word : List ℕ) (number i : ℕ) : Type 0 where
  pub within : i ≤ length word
  pub small : number ≤ most
  pub still : number_from most 0 word ≡ number_from most number (drop i word)

module _ (most : ℕ) (word : List ℕ) where
  -- at the start none are
  pub none_counted : Counting most word 0 0
  none_counted = record { within = zero-le; small = zero-le; still = refl }

  -- a digit that fits lies between 48 and 57, and its number fits
  pub fitting : (number x : ℕ) → digit_fits most number x ≡ true → (48 ≤ x) × (x ≤ 57) × (number * 10 + (x - 48) ≤ most)
  unfolding digit_fits
  fitting number x e = go (leb 48 x) (leb x 57) (leb (number * 10 + (x - 48)) most) (leb-true 48 x) (leb-true x 57) (leb-true (number * 10 + (x - 48)) most) e
    where
      go : (a b c : Bool) → (a ≡ true → 48 ≤ x) → (b ≡ true → x ≤ 57) → (c ≡ true → number * 10 + (x - 48) ≤ most)
          → both (both a b) c ≡ true → (48 ≤ x) × (x ≤ 57) × (number * 10 + (x - 48) ≤ most)
      go true true c f g h e = (f refl, g refl, h e)
      go true false c f g h e = absurd (let z : ◌≡◌ {A = ℕ} 0 1 = cc in omega arith)
      go false b c f g h e = absurd (let z : ◌≡◌ {A = ℕ} 0 1 = cc in omega arith)

  -- one digit more
  pub one_counted : {number next i : ℕ} → Counting most word number i → i < length word → Some next ≡ longer most number (get_or word i 0)
      → Counting most word next (i + 1)
  unfolding longer number_from
  one_counted {number} {next} {i} a h e = go (digit_fits most number (get_or word i 0)) (fitting number (get_or word i 0)) (a.still ∙ rw (drop-cons word i 0 h)) e
    where
      go : (b : Bool) → (b ≡ true → (48 ≤ get_or word i 0) × (get_or word i 0 ≤ 57) × (number * 10 + (get_or word i 0 - 48) ≤ most))
          → number_from most 0 word ≡ pick b (number_from most (number * 10 + (get_or word i 0 - 48)) (drop (suc i) word)) None
          → Some next ≡ pick b (Some (number * 10 + (get_or word i 0 - 48))) None → Counting most word next (i + 1)
      go true f s e = let n = same_Some _ _ e in record { within = omega arith; small = rw n (f refl).2; still = s ∙ rw (add-one i, n) }
      go false f s e = absurd (none-some _ (sym e))

  -- a byte that does not fit
  pub not_counted : {number i : ℕ} → Counting most word number i → i < length word → None ≡ longer most number (get_or word i 0)
      → Numbered (number_from most 0 word) most None
  unfolding longer number_from
  not_counted {number} {i} a h e = go (digit_fits most number (get_or word i 0)) (a.still ∙ rw (drop-cons word i 0 h)) e
    where
      go : (b : Bool) → number_from most 0 word ≡ pick b (number_from most (number * 10 + (get_or word i 0 - 48)) (drop (suc i) word)) None
          → None ≡ pick b (Some (number * 10 + (get_or word i 0 - 48))) None → Numbered (number_from most 0 word) most None
      go true s e = absurd (none-some _ e)
      go false s e = record { says = sym s; within = tt }

  -- the end
  pub all_counted : {number i : ℕ} → Counting most word number i → length word ≤ i → Numbered (number_from most 0 word) most (Some number)
  unfolding number_from
  all_counted {number} {i} a h = record { says = sym (a.still ∙ rw (drop_of_length-le word {i = i} h)); within = a.small }

-- a word of two bytes or more is a numeral where the first is no 0
pub longer_numeral : (word : List ℕ) → (length word ≡ 0 → ⊥) → (length word ≡ 1 → ⊥) → is_numeral word ≡ flip (eqb (get_or word 0 0) 48)
unfolding is_numeral
longer_numeral [] e f = absurd (e refl)
longer_numeral (x ∷ []) e f = absurd (f refl)
longer_numeral (x ∷ y ∷ more) e f = refl

-- an empty word is none
pub no_numeral : (word : List ℕ) → length word ≡ 0 → is_numeral word ≡ false
unfolding is_numeral
no_numeral [] e = refl
no_numeral (x ∷ more) e = absurd (omega arith)

-- one byte can be one
pub short_numeral : (word : List ℕ) → length word ≡ 1 → is_numeral word ≡ true
unfolding is_numeral
short_numeral [] e = absurd (omega arith)
short_numeral (x ∷ []) e = refl
short_numeral (x ∷ y ∷ more) e = absurd (omega arith)
