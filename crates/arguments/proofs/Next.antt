-- How a later argument goes on from a place in it, in the steps of the reader. Assumes nothing.
use mathlib.Core.Path.{◌≡◌, refl, ap, ◌∙◌}
use mathlib.Core.Bool.{Bool, true, false}
use mathlib.Core.List.{List, [], ◌∷◌, ◌++◌, append-nil, append_assoc}
use Prim.Native.Nat.{ℕ, suc, ◌+◌, ◌/◌}
use native.Mathlib.Nat.{add-zero}
use native.Mathlib.Omega.{arith}
use lib.ListN.{take, drop}
use borrow.Author.Tests.{eqb-true}
use Rattle.rules.specs.Choice.{pick, flip}
use Rattle.rules.specs.Unit.{is_quote, is_backslash, is_blank, quote, backslash}
use Rattle.rules.specs.Quoting.{slashes}
use Rattle.rules.specs.Reading.{outside, odd}
use Rattle.laws.specs.Scan.{leading}
use Rattle.laws.specs.Run.{differ, starts_with}
use Rattle.arguments.specs.Run.{is_end, is_taken}
use Rattle.arguments.specs.Split.{blank_plain}
use Rattle.arguments.specs.Next.{with_front, next_argument, mode, later_argument}

-- ---- units as they are

-- a unit that is taken as it is
takes : (q : Bool) (x : ℕ) (xs : List ℕ) → is_taken q x ≡ true → later_argument q (x ∷ xs) ≡ with_front (x ∷ []) (later_argument q xs)
unfolding next_argument
takes q x xs = go q (is_quote x) (is_backslash x) (is_end q x) refl refl refl
  where
    go : (q b c d : Bool) → is_quote x ≡ b → is_backslash x ≡ c → is_end q x ≡ d → pick b false (pick c false (flip d)) ≡ true
        → later_argument q (x ∷ xs) ≡ with_front (x ∷ []) (later_argument q xs)
    go q true c d p r s t = absurd (differ t)
    go q false true d p r s t = absurd (differ t)
    go q false false true p r s t = absurd (differ t)
    go true false false false p r s t = rw (p, r)
    go false false false false p r s t = rw (p, r, s)

-- a run of plain units is read as itself
pub takes_run : (q : Bool) (xs : List ℕ) → later_argument q xs ≡ with_front (take (leading (is_taken q) xs) xs) (later_argument q (drop (leading (is_taken q) xs) xs))
unfolding leading
takes_run q [] = refl
takes_run q (x ∷ xs) = go (is_taken q x) (takes_run q xs) refl
  where
    r : ℕ
    r = leading (is_taken q) xs

    go : (b : Bool) → later_argument q xs ≡ with_front (take r xs) (later_argument q (drop r xs)) → is_taken q x ≡ b
        → later_argument q (x ∷ xs) ≡ with_front (take (pick b (suc r) 0) (x ∷ xs)) (later_argument q (drop (pick b (suc r) 0) (x ∷ xs)))
    go true h e = takes q x xs e ∙ ap (with_front (x ∷ [])) h
    go false h e = refl

-- a blank outside quotes ends the argument
pub stops : (q : Bool) (x : ℕ) (xs : List ℕ) → is_end q x ≡ true → later_argument q (x ∷ xs) ≡ record { argument = []; behind = xs }
unfolding next_argument
stops true x xs e = absurd (differ e)
stops false x xs e = let (b, u) = blank_plain x e in rw (b, u, e)

-- the end of the line ends it
pub ends_line : (q : Bool) → later_argument q [] ≡ record { argument = []; behind = [] }
unfolding next_argument
ends_line q = refl

-- ---- quote marks

-- outside quotes a mark opens quoted mode
pub opens : (xs : List ℕ) → later_argument false (quote ∷ xs) ≡ later_argument true xs
unfolding next_argument
opens xs = refl

-- two inside quotes are one literal mark
pub doubles : (xs : List ℕ) → later_argument true (quote ∷ quote ∷ xs) ≡ with_front (quote ∷ []) (later_argument true xs)
unfolding next_argument
doubles xs = refl

-- before another unit a mark inside quotes closes
pub closes : (x : ℕ) (xs : List ℕ) → is_quote x ≡ false → later_argument true (quote ∷ x ∷ xs) ≡ later_argument false (x ∷ xs)
unfolding next_argument
closes x xs e = rw e

-- as the line's last unit it leaves quoted mode set
pub stays : later_argument true (quote ∷ []) ≡ later_argument true []
unfolding next_argument
stays = refl

-- ---- backslashes

counted : (q : Bool) (k : ℕ) (xs : List ℕ) → next_argument (mode q) k (backslash ∷ xs) ≡ next_argument (mode q) (k + 1) xs
unfolding next_argument
counted true k xs = refl
counted false k xs = refl

-- backslashes are counted
pub counts : (q : Bool) (k : ℕ) (xs : List ℕ) → next_argument (mode q) k xs ≡ next_argument (mode q) (k + leading is_backslash xs) (drop (leading is_backslash xs) xs)
unfolding leading
counts q k [] = rw add-zero
counts q k (x ∷ xs) = go (is_backslash x) (counts q (k + 1) xs) refl
  where
    go : (b : Bool) → next_argument (mode q) (k + 1) xs ≡ next_argument (mode q) (k + 1 + leading is_backslash xs) (drop (leading is_backslash xs) xs)
        → is_backslash x ≡ b → next_argument (mode q) k (x ∷ xs)
        ≡ next_argument (mode q) (k + pick b (suc (leading is_backslash xs)) 0) (drop (pick b (suc (leading is_backslash xs)) 0) (x ∷ xs))
    go true h e =
        let s : k + suc (leading is_backslash xs) ≡ k + 1 + leading is_backslash xs = omega arith in
        rw (eqb-true x 92 e, s) (counted q k xs ∙ h)
    go false h e = rw add-zero

-- an odd run and the mark behind it give half the backslashes and a literal mark
pub escapes : (q : Bool) (k : ℕ) (xs : List ℕ) → odd k ≡ true → next_argument (mode q) k (quote ∷ xs) ≡ with_front (slashes (k / 2) ++ quote ∷ []) (later_argument q xs)
unfolding next_argument
escapes true k xs h = rw h
escapes false k xs h = rw h

-- an even run before a mark gives half the backslashes
pub halves : (q : Bool) (k : ℕ) (xs : List ℕ) → odd k ≡ false → next_argument (mode q) k (quote ∷ xs) ≡ with_front (slashes (k / 2)) (later_argument q (quote ∷ xs))
unfolding next_argument
halves true k xs h = rw h
halves false k xs h = rw h

-- a run before anything else is literal
pub keeps : (q : Bool) (k : ℕ) (xs : List ℕ) → starts_with is_backslash xs ≡ false → starts_with is_quote xs ≡ false
    → next_argument (mode q) k xs ≡ with_front (slashes k) (later_argument q xs)
unfolding next_argument starts_with
keeps q k [] b u = rw append-nil
keeps true k (x ∷ xs) b u = simp (b, u, append_assoc)
keeps false k (x ∷ xs) b u = go (is_blank x) refl
  where
    go : (c : Bool) → is_blank x ≡ c → next_argument outside k (x ∷ xs) ≡ with_front (slashes k) (next_argument outside 0 (x ∷ xs))
    go true e = rw (b, u, e, append-nil)
    go false e = rw (b, u, e, append_assoc)
