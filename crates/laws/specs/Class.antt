-- The class of a unit: above the table it is 0, it is at most 7, and it says what the tests say. Assumes nothing.
use Rattle.std.specs.Prelude.{ℕ, ◌≤◌, ◌<◌, ◌≡◌, refl, Bool, true, false, [], ◌∷◌, eqb}
use Rattle.std.proofs.Common.{arith, ne_eqb, le-leb, le-ltb, eqb-true, subst}
use Rattle.std.proofs.lemmas.Bool.{lt-leb}
use Rattle.rules.specs.Choice.{pick, any}
use Rattle.rules.specs.Unit.{is_nul, is_line_break, is_blank, is_quote, is_backslash, is_percent, is_forcing, class_of}
use Rattle.laws.specs.Choice.{choose}

-- "units above are class 0"
pub class_above : (unit : ℕ) → 256 ≤ unit → class_of unit ≡ 0
unfolding class_of is_forcing
class_above x h =
    let not : (n : ℕ) → n < 256 → x ≡ n → ⊥ = λ n g e. omega arith in
    simp (
      ne_eqb x 0 (not 0 (omega arith)),
      ne_eqb x 13 (not 13 (omega arith)),
      ne_eqb x 10 (not 10 (omega arith)),
      ne_eqb x 32 (not 32 (omega arith)),
      ne_eqb x 9 (not 9 (omega arith)),
      ne_eqb x 34 (not 34 (omega arith)),
      ne_eqb x 92 (not 92 (omega arith)),
      ne_eqb x 37 (not 37 (omega arith)),
      le-ltb x 128 (omega arith),
      le-leb 128 x (omega arith),
      lt-leb x 159 (omega arith),
    )

-- a class is at most 7
pub class_most : (x : ℕ) → class_of x ≤ 7
unfolding class_of
class_most x =
    at_most (is_nul x) (omega arith)
    (at_most (is_line_break x) (omega arith)
    (at_most (is_blank x) (omega arith)
    (at_most (is_quote x) (omega arith)
    (at_most (is_backslash x) (omega arith) (at_most (is_percent x) (omega arith) (at_most (is_forcing x) (omega arith) (omega arith)))))))
  where
    at_most : (b : Bool) {m n : ℕ} → m ≤ 7 → n ≤ 7 → pick b m n ≤ 7
    at_most b h g = choose (λ c. c ≤ 7) b h g

-- a class says what the tests say of a unit; forcing are the units of all classes but 0 and 5
pub record Tested (x class : ℕ) : Type 0 where
  pub nul : is_nul x ≡ eqb class 1
  pub break : is_line_break x ≡ eqb class 2
  pub blank : is_blank x ≡ eqb class 3
  pub quote : is_quote x ≡ eqb class 4
  pub backslash : is_backslash x ≡ eqb class 5
  pub percent : is_percent x ≡ eqb class 6
  pub forcing : is_forcing x ≡ any (eqb class) (1 ∷ 2 ∷ 3 ∷ 4 ∷ 6 ∷ 7 ∷ [])

-- the class of x does
abbrev Tells : ℕ → Type 0
Tells x = Tested x (class_of x)

-- x is n, or else
known : (x n : ℕ) → Tells n → (eqb x n ≡ false → Tells x) → Tells x
known x n t f = go (eqb x n) refl
  where
    go : (b : Bool) → eqb x n ≡ b → Tells x
    go true e = rw (eqb-true x n e) t
    go false e = f e

-- x is none of the units that the rules name
unnamed : (x : ℕ) → is_nul x ≡ false → is_line_break x ≡ false → is_blank x ≡ false → is_quote x ≡ false → is_backslash x ≡ false → is_percent x ≡ false → Tells x
unfolding class_of
unnamed x a b c d e f = subst (λ (n : ℕ). Tested x n) (cc) (go (is_forcing x) refl)
  where
    go : (g : Bool) → is_forcing x ≡ g → Tested x (pick g 7 0)
    go true h = search
    go false h = search

-- each test of the rules on a unit is a test on its class
pub class_tests : (x : ℕ) → Tested x (class_of x)
unfolding class_of
class_tests x =
    known x 0 (search) λ nul.
    known x 13 (search) λ return.
    known x 10 (search) λ feed.
    known x 32 (search) λ space.
    known x 9 (search) λ tab.
    known x 34 (search) λ quote.
    known x 92 (search) λ backslash.
    known x 37 (search) λ percent.
    unnamed x nul (rw return feed) (rw space tab) quote backslash percent
