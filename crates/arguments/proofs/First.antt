-- How argument 0 goes on from a place in it, in the steps of the reader. Assumes nothing.
use mathlib.Core.Path.{◌≡◌, refl, sym, ap, ◌∙◌}
use mathlib.Core.Bool.{Bool, true, false, not}
use mathlib.Core.List.{List, [], ◌∷◌}
use Prim.Native.Nat.{ℕ, suc, ◌+◌, ◌≤◌, ◌<◌}
use native.Mathlib.Nat.{add-zero}
use native.Mathlib.Omega.{arith}
use lib.ListN.{length, get_or, take, drop}
use lib.Seq.{sets, length-take-le}
use borrow.Author.Tests.{ne_eqb}
use Rattle.rules.specs.Choice.{pick, flip}
use Rattle.rules.specs.Unit.{is_quote, quote}
use Rattle.rules.specs.Reading.{argument0, behind0}
use Rattle.laws.specs.Scan.{leading, leading_in}
use Rattle.laws.specs.Run.{at, at_is, differ, starts_with}
use Rattle.arguments.specs.Run.{is_end, is_kept}
use Rattle.arguments.specs.Next.{with_front, first_argument, OneRead}
use Rattle.arguments.proofs.Still as still
use Rattle.arguments.proofs.Still.{Still}

-- a run of units that are kept is read as itself
keeps_run : (q : Bool) (xs : List ℕ) → first_argument q xs ≡ with_front (take (leading (is_kept q) xs) xs) (first_argument q (drop (leading (is_kept q) xs) xs))
unfolding leading argument0 behind0
keeps_run q [] = refl
keeps_run q (x ∷ xs) = go (is_quote x) (is_end q x) (keeps_run q xs) refl refl
  where
    r : ℕ
    r = leading (is_kept q) xs

    go : (b c : Bool) → first_argument q xs ≡ with_front (take r xs) (first_argument q (drop r xs)) → is_quote x ≡ b → is_end q x ≡ c
        → (let k = pick (pick b false (flip c)) (suc r) 0 in first_argument q (x ∷ xs) ≡ with_front (take k (x ∷ xs)) (first_argument q (drop k (x ∷ xs))))
    go true c h u e = refl
    go false true h u e = refl
    go false false h u e = rw (u, e) (ap (with_front (x ∷ [])) h)

-- a quote mark toggles quoted mode
toggled : (q : Bool) (xs : List ℕ) → first_argument q (quote ∷ xs) ≡ first_argument (not q) xs
unfolding argument0 behind0
toggled true xs = refl
toggled false xs = refl

-- a unit that is neither kept nor a quote mark ends it
ended : (q : Bool) (x : ℕ) (xs : List ℕ) → is_quote x ≡ false → is_kept q x ≡ false → first_argument q (x ∷ xs) ≡ record { argument = []; behind = xs }
unfolding argument0 behind0
ended q x xs u k = let e : is_end q x ≡ true = flipped (is_end q x) (rw u at k) in rw (u, e)
  where
    flipped : (b : Bool) → flip b ≡ false → b ≡ true
    flipped true z = refl
    flipped false z = absurd (differ (sym z))

module _ {line before out : List ℕ} {i n : ℕ} {q : Bool} (r : Still first_argument line before out i n q) where
  -- a run more
  pub keeps : {after : List ℕ} (run : ℕ) → run ≡ leading (is_kept q) (drop i line) → after ≡ sets out n (take run (drop i line)) → Still first_argument line before after (i + run) (n + run) q
  keeps run e w =
      let xs = drop i line in
      let l : leading (is_kept q) xs ≤ length xs = leading_in (is_kept q) xs in
      let t : length (take run xs) ≡ run = length-take-le run xs (omega arith) in
      rw t at (still.goes r {q' = q} run (take run xs) (keeps_run q xs ∙ rw (← e)) (omega arith) (omega arith) w)

  -- a quote mark
  pub toggles : i < length line → get_or line i 0 ≡ 34 → Still first_argument line before out (i + 1) n (not q)
  toggles h u =
      let e : drop i line ≡ 34 ∷ drop (i + 1) line = at_is line i 34 h u in
      let some : 1 ≤ length (drop i line) = rw e (omega arith) in
      rw add-zero at (still.goes r {q' = not q} 1 [] (rw e (toggled q (drop (i + 1) line))) some (omega arith) refl)

  -- a blank outside quotes ends it: what no run takes and is no quote mark
  pub stops : i < length line → (get_or line i 0 ≡ 34 → ⊥) → starts_with (is_kept q) (drop i line) ≡ false → OneRead (first_argument false line) line before out (i + 1) n
  unfolding starts_with
  stops h u k = still.stops r h (ended q _ _ (ne_eqb _ _ u) (rw (at line i h) at k))

  -- the end of the line ends it
  pub finishes : length line ≤ i → OneRead (first_argument false line) line before out i n
  unfolding argument0 behind0
  finishes h = still.finishes r h refl
