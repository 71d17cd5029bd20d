-- How much reading gives: at most as many units as the line has, and an argument for every two units. Assumes nothing.
use Rattle.std.specs.Prelude.{ℕ, suc, ◌+◌, ◌-◌, ◌*◌, ◌≤◌, ◌/◌, Bool, true, false, List, [], ◌∷◌, ◌++◌, length}
use Rattle.std.proofs.Common.{arith, length-append}
use Rattle.std.proofs.lemmas.List.{length-replicate}
use Rattle.rules.specs.Choice.{pick, both, flip, is_empty}
use Rattle.rules.specs.Unit.{is_quote, is_backslash, is_blank, quote, backslash}
use Rattle.rules.specs.Quoting.{slashes}
use Rattle.rules.specs.Reading.{Mode, between, outside, inside, closing, taking, outside_quotes, ends, mark, odd, last, later, argument0, behind0, arguments, joined, line_of, arguments_read, units_read}
use Rattle.laws.specs.Choice.{choose}
use Rattle.laws.specs.Length.{lengths}

-- ---- argument 0

-- a front and a back that have together at most so many units, one of which, if there is any, is not in the back
abbrev Splits : ℕ → List ℕ → List ℕ → Type 0
Splits size front back = (length front + length back ≤ size) × (length back ≤ size - 1)

argument0_splits : (q : Bool) (xs : List ℕ) → Splits (length xs) (argument0 q xs) (behind0 q xs)
unfolding argument0 behind0
argument0_splits q [] = omega arith
argument0_splits q (x ∷ xs) = go (is_quote x) (both (flip q) (is_blank x)) (argument0_splits (flip q) xs) (argument0_splits q xs)
  where
    go : (b c : Bool) → Splits (length xs) (argument0 (flip q) xs) (behind0 (flip q) xs) → Splits (length xs) (argument0 q xs) (behind0 q xs)
        → Splits (suc (length xs)) (pick b (argument0 (flip q) xs) (pick c [] (x ∷ argument0 q xs))) (pick b (behind0 (flip q) xs) (pick c xs (behind0 q xs)))
    go true c h g = omega arith
    go false true h g = omega arith
    go false false h g = omega arith

-- ---- the later arguments

-- what twice the number of arguments may have more than the units that they are read from
abbrev slack : Mode → ℕ
slack between = 1
slack outside = 2
slack inside = 2
slack closing = 2

-- arguments that have at most so many units and are read in this mode from so many units
record Fits (m : Mode) (most size : ℕ) (args : List (List ℕ)) : Type 0 where
  units : length (joined args) ≤ most
  count : 2 * length args ≤ size + slack m

last_fits : (m : Mode) (cur : List ℕ) → Fits m (length cur) 0 (last m cur)
unfolding last
last_fits between cur = omega arith
last_fits outside [] = omega arith
last_fits outside (x ∷ xs) = omega (arith, length-append xs [])
last_fits inside cur = omega (arith, length-append cur [])
last_fits closing cur = omega (arith, length-append cur [])

ends_fit : (m : Mode) (cur : List ℕ) {most size : ℕ} {more : List (List ℕ)} → Fits between most size more → Fits m (length cur + most) (suc size) (ends m cur more)
unfolding ends
ends_fit between cur h = omega arith
ends_fit outside cur {more = more} h = omega (arith, length-append cur (joined more))
ends_fit inside cur {more = more} h = omega (arith, length-append cur (joined more))
ends_fit closing cur {more = more} h = omega (arith, length-append cur (joined more))

-- from any mode and behind any units, what is read of these fits
abbrev Bounded : List ℕ → Type 0
Bounded xs = (m : Mode) (k : ℕ) (cur : List ℕ) → Fits m (length cur + k + length xs) (length xs) (later m k cur xs)

mark_fits : (m : Mode) (cur xs : List ℕ) → Bounded xs → Fits m (length cur + suc (length xs)) (suc (length xs)) (mark m cur (λ m' cur'. later m' 0 cur' xs))
unfolding mark
mark_fits between cur xs ih = omega (arith, ih inside 0 cur)
mark_fits outside cur xs ih = omega (arith, ih inside 0 cur)
mark_fits inside cur xs ih = omega (arith, ih closing 0 cur)
mark_fits closing cur xs ih = omega (arith, ih inside 0 (cur ++ quote ∷ []), length-append cur (quote ∷ []))

-- a unit is taken
take_fits : (m : Mode) (k most : ℕ) (cur xs : List ℕ) → length cur + k ≤ most + 1 → Bounded xs → Fits m (most + suc (length xs)) (suc (length xs)) (later (taking m) k cur xs)
unfolding taking
take_fits between k most cur xs h ih = omega (arith, ih outside k cur)
take_fits outside k most cur xs h ih = omega (arith, ih outside k cur)
take_fits inside k most cur xs h ih = omega (arith, ih inside k cur)
take_fits closing k most cur xs h ih = omega (arith, ih outside k cur)

later_step : (x : ℕ) (xs : List ℕ) → Bounded xs → Bounded (x ∷ xs)
unfolding later
later_step x xs ih m k cur =
    choose P (is_backslash x)
    (take_fits m (k + 1) (length cur + k) cur xs (omega arith) ih)
    (choose P (is_quote x)
    (choose P (odd k)
    (take_fits m 0 (length cur + k) (cur ++ slashes (k / 2) ++ quote ∷ []) xs (simp lengths (omega arith)) ih)
    (widened (mark_fits m (cur ++ slashes (k / 2)) xs ih) (simp lengths (omega arith))))
    (choose P (both (outside_quotes m) (is_blank x))
    (widened (ends_fit m (cur ++ slashes k) (ih between 0 [])) (simp lengths (omega arith)))
    (take_fits m 0 (length cur + k) (cur ++ slashes k ++ x ∷ []) xs (simp lengths (omega arith)) ih)))
  where
    P : List (List ℕ) → Type 0
    P args = Fits m (length cur + k + suc (length xs)) (suc (length xs)) args

    widened : {most : ℕ} {args : List (List ℕ)} → Fits m most (suc (length xs)) args → most ≤ length cur + k + suc (length xs) → P args
    widened f h = omega arith

later_fits : (xs : List ℕ) → Bounded xs
unfolding later
later_fits [] = λ m k cur. omega (arith, last_fits m (cur ++ slashes k), length-append cur (slashes k), length-replicate k backslash)
later_fits (x ∷ xs) = later_step x xs (later_fits xs)

-- ---- the whole line

-- the arguments have together at most as many units as the line
pub text_extent : (xs : List ℕ) → length (joined (arguments xs)) ≤ length xs
unfolding arguments
text_extent xs =
    let rest = behind0 false xs in
    omega (arith, later_fits rest between 0 [], length-append (argument0 false xs) (joined (later between 0 [] rest)), argument0_splits false xs)

-- there are at most half as many arguments as the line has units, and one; ` a` has two
pub count_extent : (xs : List ℕ) → 2 * length (arguments xs) ≤ length xs + 2
unfolding arguments
count_extent [] = omega arith
count_extent (x ∷ xs) = omega (arith, later_fits (behind0 false (x ∷ xs)) between 0 [], argument0_splits false (x ∷ xs))

-- what is read has at most as many units as the limit counts, and an argument for every two of them, and one; an empty line too
pub record Extent (size : ℕ) (args : List (List ℕ)) : Type 0 where
  pub text : length (joined args) ≤ size
  pub count : 2 * length args ≤ size + 2

-- so it is whatever is lent
pub read_extent : (executable lent : List ℕ) → Extent (length (units_read executable lent)) (arguments_read executable lent)
unfolding units_read arguments_read
read_extent executable lent = go (is_empty line)
  where
    line : List ℕ
    line = line_of lent

    go : (b : Bool) → Extent (length (pick b executable line)) (pick b (executable ∷ []) (arguments line))
    go true = omega (arith, length-append executable [])
    go false = record { text = text_extent line; count = count_extent line }
