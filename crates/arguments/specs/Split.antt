-- The later arguments of a line are the next one and those behind it. Assumes nothing.
use Rattle.std.specs.Prelude.{◌≡◌, refl, Bool, true, false, List, [], ◌∷◌, ◌++◌, ℕ, suc, ◌+◌, ◌/◌, ◌<◌, length, drop, eqb}
use Rattle.std.proofs.Common.{sym, ap, ◌∙◌, append_assoc, add-zero, arith, length-append, eqb-true}
use Rattle.std.proofs.lemmas.List.{length-replicate}
use Rattle.rules.specs.Choice.{pick, both}
use Rattle.rules.specs.Unit.{is_quote, is_backslash, is_blank, quote}
use Rattle.rules.specs.Quoting.{slashes}
use Rattle.rules.specs.Reading.{Mode, later, between, outside, inside, closing, taking, outside_quotes, ends, mark, last, odd}
use Rattle.laws.specs.Scan.{leading}
use Rattle.laws.specs.Run.{differ, starts_with}
use Rattle.arguments.specs.Next.{next_argument, next_marked, later_argument}

-- ---- one after another

-- nothing is left at the end of the line
pub nothing_left : later between 0 [] [] ≡ []
unfolding later
nothing_left = refl

-- a blank is neither a backslash nor a quote mark
pub blank_plain : (x : ℕ) → is_blank x ≡ true → (is_backslash x ≡ false) × (is_quote x ≡ false)
blank_plain x e = (go (is_backslash x) 92 refl refl, go (is_quote x) 34 refl refl)
  where
    go : (b : Bool) (y : ℕ) → is_blank y ≡ false → eqb x y ≡ b → b ≡ false
    go true y n p = absurd (differ (sym n ∙ ap is_blank (sym (eqb-true x y p)) ∙ e))
    go false y n p = refl

-- a blank between arguments is passed
passes_blank : (x : ℕ) (xs : List ℕ) → is_blank x ≡ true → later between 0 [] (x ∷ xs) ≡ later between 0 [] xs
unfolding later
passes_blank x xs e = let (b, u) = blank_plain x e in rw (b, u, e)

-- blanks are passed
pub skips_blanks : (xs : List ℕ) → later between 0 [] xs ≡ later between 0 [] (drop (leading is_blank xs) xs)
unfolding leading
skips_blanks [] = refl
skips_blanks (x ∷ xs) = go (is_blank x) (skips_blanks xs) refl
  where
    go : (b : Bool) → later between 0 [] xs ≡ later between 0 [] (drop (leading is_blank xs) xs) → is_blank x ≡ b
        → later between 0 [] (x ∷ xs) ≡ later between 0 [] (drop (pick b (suc (leading is_blank xs)) 0) (x ∷ xs))
    go true h e = passes_blank x xs e ∙ h
    go false h e = refl

-- ---- the next one, and the others behind it

-- A reader stands in an argument, and n units are in it or still to come. Outside quotes there is one at least: an argument without units is added
-- only where quoted mode is set.
data Held : Mode → ℕ → Type 0 where
  unquoted : {n : ℕ} → 0 < n → Held outside n
  quoted : {n : ℕ} → Held inside n
  closed : {n : ℕ} → Held closing n

held_taking : {m : Mode} {n n' : ℕ} → Held m n → 0 < n' → Held (taking m) n'
unfolding taking
held_taking (unquoted h) g = unquoted g
held_taking quoted g = quoted
held_taking closed g = unquoted g

ends_held : {m : Mode} {n : ℕ} (cur : List ℕ) (more : List (List ℕ)) → Held m n → ends m cur more ≡ cur ∷ more
unfolding ends
ends_held cur more (unquoted h) = refl
ends_held cur more quoted = refl
ends_held cur more closed = refl

last_held : {m : Mode} (cur : List ℕ) → Held m (length cur) → last m cur ≡ cur ∷ []
unfolding last
last_held [] (unquoted h) = absurd (omega arith)
last_held (x ∷ cur) (unquoted h) = refl
last_held cur quoted = refl
last_held cur closed = refl

-- the later arguments from a place in one of them are this one and those behind it
Divides : List ℕ → Type 0
Divides xs = (m : Mode) (k : ℕ) (cur : List ℕ) → Held m (length cur + (k + length xs))
    → later m k cur xs ≡ (cur ++ (next_argument m k xs).argument) ∷ later between 0 [] (next_argument m k xs).behind

marks : {m : Mode} {n : ℕ} (cur xs : List ℕ) → Divides xs → Held m n
    → mark m cur (λ m' cur'. later m' 0 cur' xs)
    ≡ (cur ++ (next_marked m (λ m'. next_argument m' 0 xs)).argument) ∷ later between 0 [] (next_marked m (λ m'. next_argument m' 0 xs)).behind
unfolding Divides mark
marks cur xs ih (unquoted h) = ih inside 0 cur quoted
marks cur xs ih quoted = ih closing 0 cur closed
marks cur xs ih closed = rw append_assoc at (ih inside 0 (cur ++ quote ∷ []) quoted)

reads_on : {m : Mode} (cur u v xs : List ℕ) → Divides xs → Held m (length (cur ++ u ++ v) + (0 + length xs))
    → later m 0 (cur ++ u ++ v) xs ≡ (cur ++ (u ++ v ++ (next_argument m 0 xs).argument)) ∷ later between 0 [] (next_argument m 0 xs).behind
unfolding Divides
reads_on {m} cur u v xs ih h = simp append_assoc (simp append_assoc at (ih m 0 (cur ++ u ++ v) h))

divides : (xs : List ℕ) → Divides xs
unfolding Divides later next_argument
divides [] m k cur h = last_held {m = m} (cur ++ slashes k) (rw (length-append, length-replicate) (rw add-zero at h))
divides (x ∷ xs) m k cur h = go (is_backslash x) (is_quote x) (odd k) (both (outside_quotes m) (is_blank x)) (divides xs) refl refl refl refl
  where
    go : (b c d e : Bool) → Divides xs → is_backslash x ≡ b → is_quote x ≡ c → odd k ≡ d → both (outside_quotes m) (is_blank x) ≡ e
        → later m k cur (x ∷ xs) ≡ (cur ++ (next_argument m k (x ∷ xs)).argument) ∷ later between 0 [] (next_argument m k (x ∷ xs)).behind
    go true c d e ih p q r s = rw p (ih (taking m) (k + 1) cur (held_taking h (omega arith)))
    go false true true e ih p q r s =
        rw (p, q, r) (reads_on cur (slashes (k / 2)) (quote ∷ []) xs ih (held_taking h (rw length-append (omega arith))))
    go false true false e ih p q r s = rw (p, q, r, ← append_assoc) (marks (cur ++ slashes (k / 2)) xs ih h)
    go false false d true ih p q r s = rw (p, q, s) (ends_held (cur ++ slashes k) (later between 0 [] xs) h)
    go false false d false ih p q r s =
        rw (p, q, s) (reads_on cur (slashes k) (x ∷ []) xs ih (held_taking h (rw length-append (omega arith))))

-- where a rest begins with an argument, it is that one and those behind it
pub begins : (rest : List ℕ) → 0 < length rest → starts_with is_blank rest ≡ false
    → later between 0 [] rest ≡ (later_argument false rest).argument ∷ later between 0 [] (later_argument false rest).behind
unfolding starts_with later Divides
begins [] h e = absurd (omega arith)
begins (x ∷ xs) h e = first_unit ∙ divides (x ∷ xs) outside 0 [] (unquoted (omega arith))
  where
    first_unit : later between 0 [] (x ∷ xs) ≡ later outside 0 [] (x ∷ xs)
    first_unit = rw e
