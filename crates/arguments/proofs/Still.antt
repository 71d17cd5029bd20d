-- What is still to be read of one argument, and how a step more goes on: for argument 0 and for a later one alike. Assumes nothing.
use mathlib.Core.Path.{◌≡◌, refl, sym, ap, ◌∙◌}
use mathlib.Core.Bool.{Bool, false}
use mathlib.Core.List.{List, [], ◌∷◌}
use Prim.Native.Nat.{ℕ, ◌+◌, ◌-◌, ◌≤◌, ◌<◌}
use native.Mathlib.Omega.{arith}
use lib.ListN.{length, get_or, drop, drop_of_length-le, length-append, length-drop}
use lib.Seq.{sets, drop-drop}
use Rattle.laws.specs.Store.{sets_append}
use Rattle.arguments.specs.Next.{Next, with_front, OneRead}
use Rattle.laws.specs.Run.{at}

-- i units of the rest are used and n are written; what is left of the argument is that of what is left of the rest
pub record Still (f : Bool → List ℕ → Next) (rest before out : List ℕ) (i n : ℕ) (quoted : Bool) : Type 0 where
  pub behind : (f quoted (drop i rest)).behind ≡ (f false rest).behind
  pub counts : n + length (f quoted (drop i rest)).argument ≡ length (f false rest).argument
  pub stores : sets out n (f quoted (drop i rest)).argument ≡ sets before 0 (f false rest).argument
  pub within : i ≤ length rest
  pub few : n ≤ i

-- where the argument begins
pub starts : {f : Bool → List ℕ → Next} (rest before : List ℕ) → Still f rest before before 0 0 false
starts rest before = record { behind = refl; counts = omega arith; stores = refl; within = omega arith; few = omega arith }

module _ {f : Bool → List ℕ → Next} {rest before out : List ℕ} {i n : ℕ} {q : Bool} (r : Still f rest before out i n q) where
  -- a step more: so many units give these, and the argument goes on behind them
  pub goes : {after : List ℕ} {q' : Bool} (used : ℕ) (given : List ℕ) → f q (drop i rest) ≡ with_front given (f q' (drop used (drop i rest))) → used ≤ length (drop i rest)
      → length given ≤ used → after ≡ sets out n given → Still f rest before after (i + used) (n + length given) q'
  goes {q' = q'} used given e h l w =
      let d : length (drop i rest) ≡ length rest - i = length-drop i rest in
      let to : f q (drop i rest) ≡ with_front given (f q' (drop (i + used) rest)) = e ∙ rw drop-drop in
      let left = (f q' (drop (i + used) rest)).argument in
      record {
        behind = rw to at r.behind;
        counts = omega (arith, rw (to, length-append) at r.counts);
        stores = rw w (sym (sets_append out n given left) ∙ rw to at r.stores);
        within = omega (arith, r.within);
        few = omega (arith, r.few);
      }

  done : (j : ℕ) → f q (drop i rest) ≡ record { argument = []; behind = drop j rest } → j ≤ length rest → i ≤ j → (0 < length rest → 0 < j)
      → OneRead (f false rest) rest before out j n
  done j e h l s = record {
    behind = rw e at r.behind;
    within = h;
    counts = omega (arith, rw e at r.counts);
    stores = rw e at r.stores;
    some = s;
    few = omega (arith, r.few);
  }

  -- the unit at i ends it
  pub stops : i < length rest → f q (get_or rest i 0 ∷ drop (i + 1) rest) ≡ record { argument = []; behind = drop (i + 1) rest }
      → OneRead (f false rest) rest before out (i + 1) n
  stops h e = done (i + 1) (ap (f q) (at rest i h) ∙ e) (omega arith) (omega arith) (λ _. omega arith)

  -- the end of the line ends it
  pub finishes : length rest ≤ i → f q [] ≡ record { argument = []; behind = [] } → OneRead (f false rest) rest before out i n
  finishes h e = done i (rw (drop_of_length-le rest h) e) r.within (omega arith) (λ z. omega arith)
