-- std's words on a list that is looked through, as the rules' words. Assumes nothing.
use Rattle.std.proofs.Common.{ℕ, ◌≡◌, Bool, true, false, not, cond, Option, Some, None, List, [], ◌∷◌, length, ltb, refl, zero, suc, get_or, ◌+◌, arith, unwrap_or, ◌∙◌, ◌-◌, Bor, eqb}
use Rattle.std.proofs.lemmas.Bool.{ltb-false}
use Rattle.std.specs.List.{list_any, position_or_len, slice_get}
use Rattle.laws.specs.Any.{or_either}
use Rattle.laws.specs.Last.{last_unit}
use Rattle.laws.specs.Scan.{leading, leading_in}
use Rattle.std.specs.Option.{option_eq, option_copied}
use Rattle.rules.specs.Choice.{any, flip, pick}
use Rattle.rules.specs.Unit.{is_backslash}
use Rattle.rules.specs.Batch.{ends_in_backslash}

-- whether some element passes
pub any_is : (p : ℕ → Bool) (xs : List ℕ) → list_any p xs ≡ any p xs
any_is p [] = refl
any_is p (x ∷ xs) = rw (any_is p xs, or_either (p x) (any p xs))

-- where the first element is that does not pass p
first_is : (p q : ℕ → Bool) → ((x : ℕ) → q x ≡ flip (p x)) → (xs : List ℕ) → position_or_len q xs ≡ leading p xs
unfolding leading
first_is p q h [] = refl
first_is p q h (x ∷ xs) = rw (h x, first_is p q h xs) (go (p x))
  where
    go : (b : Bool) → cond (not (flip b)) (1 + leading p xs) 0 ≡ pick b (suc (leading p xs)) 0
    go true = omega arith
    go false = refl

-- and where the list ends if there is none
pub first_or_end : (p q : ℕ → Bool) → ((x : ℕ) → q x ≡ flip (p x)) → (xs : List ℕ) (r : Option ℕ) (n : ℕ)
    → r ≡ cond (ltb (position_or_len q xs) (length xs)) (Some (position_or_len q xs)) None → n ≡ unwrap_or r (length xs) → n ≡ leading p xs
first_or_end p q h xs r n e f = go (ltb (position_or_len q xs) (length xs)) refl e
  where
    go : (b : Bool) → ltb (position_or_len q xs) (length xs) ≡ b → r ≡ cond b (Some (position_or_len q xs)) None → n ≡ leading p xs
    go true l s = f ∙ rw s (first_is p q h xs)
    go false l s = f ∙ rw s (omega (arith, ltb-false _ _ l, first_is p q h xs, leading_in p xs))

-- ---- the last unit

-- whether the last unit, if there is one, is a backslash
abbrev pub last_is_backslash : Option ℕ → Bool
last_is_backslash None = false
last_is_backslash (Some x) = is_backslash x

-- asked of what is lent
pub lent_last : (r : Option (Bor ℕ)) (y : Bor ℕ) → y.now ≡ 92 → option_eq (λ (a b : Bor ℕ). eqb a.now b.now) r (Some y) ≡ last_is_backslash (option_copied r)
lent_last None y h = refl
lent_last (Some x) y h = rw h

-- what has no place is no backslash
at_place : (xs : List ℕ) (k : ℕ) → last_is_backslash (slice_get xs k) ≡ is_backslash (get_or xs k 0)
at_place [] k = refl
at_place (x ∷ xs) zero = refl
at_place (x ∷ xs) (suc k) = at_place xs k

-- and of the list
pub last_ends : (xs : List ℕ) → last_is_backslash (slice_get xs (length xs - 1)) ≡ ends_in_backslash xs
last_ends xs = at_place xs (length xs - 1) ∙ last_unit xs
