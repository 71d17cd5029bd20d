-- The form of one argument of an ordinary line is read back as that argument. Assumes nothing.
use Rattle.std.specs.Prelude.{ℕ, zero, suc, ◌+◌, ◌*◌, ◌/◌, ◌%◌, ◌≡◌, Bool}
use Rattle.std.proofs.Common.{arith, add-zero, zero-add, add-one, ◌∙◌}
use Rattle.std.proofs.Math.Path.{refl}
use Rattle.std.proofs.Math.Bool.{true, false}
use mathlib.Core.List.{List, [], ◌∷◌, ◌++◌, append_assoc, append-nil}
use Rattle.rules.specs.Choice.{pick, both, any}
use Rattle.rules.specs.Unit.{is_blank, quote, backslash}
use Rattle.rules.specs.Quoting.{slashes, escaped, needs_quotes, enclosed, form}
use Rattle.rules.specs.Reading.{Mode, between, outside, inside, taking, outside_quotes, odd, later}
use Rattle.laws.specs.Choice.{apart}
use Rattle.laws.specs.Kind.{Kind, slash, marked, other, kind}

-- ---- backslashes

odd_run : (k : ℕ) → odd (2 * k + 1) ≡ true
odd_run k = let e : (2 * k + 1) % 2 ≡ 1 = omega arith in rw e

even_run : (k : ℕ) → odd (2 * k) ≡ false
even_run k = let e : (2 * k) % 2 ≡ 0 = omega arith in rw e

half_odd : (k : ℕ) → (2 * k + 1) / 2 ≡ k
half_odd k = omega arith

half_even : (k : ℕ) → (2 * k) / 2 ≡ k
half_even k = omega arith

-- a run of backslashes is counted
counted : (m : Mode) → taking m ≡ m → (n k : ℕ) (cur rest : List ℕ) → later m k cur (slashes n ++ rest) ≡ later m (k + n) cur rest
unfolding later
counted m t zero k cur rest = rw add-zero
counted m t (suc n) k cur rest =
    let e : k + 1 + n ≡ k + suc n = omega arith in
    rw t (counted m t n (k + 1) cur rest ∙ rw e)

run : (m : Mode) → taking m ≡ m → (n : ℕ) (cur rest : List ℕ) → later m 0 cur (slashes n ++ rest) ≡ later m n cur rest
run m t n cur rest = counted m t n 0 cur rest ∙ rw zero-add

-- one backslash more
one_more : (k : ℕ) (xs : List ℕ) → slashes (suc k) ++ xs ≡ slashes k ++ backslash ∷ xs
one_more zero xs = refl
one_more (suc k) xs = rw (one_more k xs)

-- ---- one argument, from its first unit to its last
module _ (m : Mode) (t : taking m ≡ m) (q : Bool) (rest whole : List ℕ) (R : List (List ℕ))
    (end : (k : ℕ) (cur : List ℕ) → cur ++ slashes k ≡ whole → later m 0 cur (escaped q k [] ++ rest) ≡ R) where
  -- from any unit of the argument on, its escaped rest is read as the whole of it
  abbrev Body : List ℕ → Type 0
  Body xs = both (outside_quotes m) (any is_blank xs) ≡ false → (k : ℕ) (cur : List ℕ) → cur ++ (slashes k ++ xs) ≡ whole
      → later m 0 cur (escaped q k xs ++ rest) ≡ R

  step : {x : ℕ} (xs : List ℕ) → Kind x → Body xs → Body (x ∷ xs)
  unfolding later escaped
  step xs slash ih h k cur e = ih h (k + 1) cur (rw (add-one, one_more) e)
  step xs marked ih h k cur e =
      simp (append_assoc, run m t, odd_run, half_odd, t) (ih h 0 (cur ++ (slashes k ++ quote ∷ [])) (simp append_assoc e))
  step xs (other {x} p r) ih h k cur e =
      let (b, h') = apart (outside_quotes m) (is_blank x) (any is_blank xs) h in
      simp (p, r, append_assoc, run m t, b, t) (ih h' 0 (cur ++ (slashes k ++ x ∷ [])) (simp append_assoc e))

  body : (xs : List ℕ) → Body xs
  body [] = λ h k cur e. end k cur (rw append-nil at e)
  body (x ∷ xs) = step xs (kind x) (body xs)

-- ---- where an argument ends

-- what may stand behind an argument: nothing, or a space
pub data EndOrBlank : List ℕ → Type 0 where
  nothing : EndOrBlank []
  blank : {ys : List ℕ} → EndOrBlank (32 ∷ ys)

stop : {rest : List ℕ} → EndOrBlank rest → (k : ℕ) (cur : List ℕ) (x : ℕ) (xs : List ℕ) → cur ++ slashes k ≡ x ∷ xs
    → later outside 0 cur (escaped false k [] ++ rest) ≡ (x ∷ xs) ∷ later between 0 [] rest
unfolding later escaped
stop nothing k cur x xs e = simp (run outside refl, e)
stop blank k cur x xs e = simp (run outside refl, e)

close : {rest : List ℕ} → EndOrBlank rest → (k : ℕ) (cur whole : List ℕ) → cur ++ slashes k ≡ whole
    → later inside 0 cur (escaped true k [] ++ quote ∷ rest) ≡ whole ∷ later between 0 [] rest
unfolding later escaped
close nothing k cur whole e = simp (run inside refl, even_run, half_even, e, append-nil)
close blank k cur whole e = simp (run inside refl, even_run, half_even, e, append-nil)

-- ---- where an argument outside quotes begins

-- an argument outside quotes is read as if it had begun
abbrev Begins : ℕ → List ℕ → Type 0
Begins k xs = (rest : List ℕ) → later between 0 [] (escaped false k xs ++ rest) ≡ later outside 0 [] (escaped false k xs ++ rest)

begin_step : {x : ℕ} (xs : List ℕ) → Kind x → ((k : ℕ) → Begins (suc k) xs) → (k : ℕ) → Begins (suc k) (x ∷ xs)
unfolding later escaped
begin_step xs slash ih k rest = rw add-one (ih (suc k) rest)
begin_step xs marked ih k rest = rw add-one
begin_step xs (other p r) ih k rest = simp (p, r)

begin_behind : (xs : List ℕ) (k : ℕ) → Begins (suc k) xs
unfolding later escaped
begin_behind [] k rest = refl
begin_behind (x ∷ xs) k rest = begin_step xs (kind x) (begin_behind xs) k rest

begin : {x : ℕ} (xs : List ℕ) → Kind x → is_blank x ≡ false → Begins 0 (x ∷ xs)
unfolding later escaped
begin xs slash h rest = begin_behind xs 0 rest
begin xs marked h rest = refl
begin xs (other p r) h rest = simp (p, r, h)

-- ---- the form

module _ (force : Bool) {rest : List ℕ} (b : EndOrBlank rest) where
  -- these units, with the rest behind them, are read as the argument and then the rest
  abbrev ReadsAs : List ℕ → List ℕ → Type 0
  ReadsAs a xs = later between 0 [] (xs ++ rest) ≡ a ∷ later between 0 [] rest

  plain_read : (a : List ℕ) → needs_quotes force a ≡ false → ReadsAs a (escaped false 0 a)
  unfolding needs_quotes later
  plain_read [] e = let z : true ≡ false = (apart true force _ e).1 in cc
  plain_read (x ∷ xs) e =
      let h : any is_blank (x ∷ xs) ≡ false = (apart true force _ e).1 in
      begin xs (kind x) (apart true (is_blank x) _ h).0 rest
      ∙ body outside refl false rest (x ∷ xs) _ (λ k cur e. stop b k cur x xs e) (x ∷ xs) h 0 [] refl

  quoted_read : (a : List ℕ) → ReadsAs a (enclosed (escaped true 0 a))
  unfolding later
  quoted_read a =
      rw (append_assoc (escaped true 0 a)) (body inside refl true (quote ∷ rest) a _ (λ k cur e. close b k cur a e) a refl 0 [] refl)

  -- an argument's form, with nothing or a space behind it, is read as that argument
  pub form_read : (a : List ℕ) → later between 0 [] (form force a ++ rest) ≡ a ∷ later between 0 [] rest
  unfolding form
  form_read a = go (needs_quotes force a) refl
    where
      go : (q : Bool) → needs_quotes force a ≡ q → ReadsAs a (pick q ((enclosed (escaped true 0 a))) (escaped false 0 a))
      go true e = quoted_read a
      go false e = plain_read a e
