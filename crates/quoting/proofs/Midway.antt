-- Midway through an argument that is written part by part: what is left to be written, and how many backslashes count. Assumes nothing.
use Prim.Native.Nat.{ℕ, ◌+◌, ◌≤◌, ◌<◌}
use native.Mathlib.Nat.{add-zero}
use native.Mathlib.Omega.{arith}
use mathlib.Core.Path.{◌≡◌, refl, sym, ap, ◌∙◌}
use mathlib.Core.Bool.{Bool}
use mathlib.Core.List.{List, [], ◌∷◌, ◌++◌}
use lib.Dec.{eqb}
use lib.ListN.{length, get_or, take, drop, length-append, length-drop, drop_of_length-le, take-append-drop}
use lib.Seq.{sets, drop-cons, drop-drop, length-take-le}
use Rattle.rules.specs.Choice.{pick}
use Rattle.rules.specs.Unit.{is_backslash}
use Rattle.rules.specs.Record.{part}
use Rattle.laws.specs.Any.{part_length}
use Rattle.laws.specs.Placed.{Left, less_left, same_left}
use Rattle.laws.specs.Scan.{trailing_from, trailing_in}
use Rattle.quoting.specs.Emitted.{PlainFront, Emits, stretch, slashes_behind}
use Rattle.quoting.proofs.Emitting.{stretch_append, behind_append}

-- the rest, as a part and what lies behind it
rest_cut : (xs : List ℕ) (i m : ℕ) → part xs i m ++ drop (i + m) xs ≡ drop i xs
rest_cut xs i m = rw (← drop-drop) (take-append-drop m (drop i xs))

-- a part of one unit
pub one_part : (xs : List ℕ) (i : ℕ) → i < length xs → part xs i 1 ≡ get_or xs i 0 ∷ []
one_part xs i h = rw (drop-cons xs i 0)

-- The units up to i are written, and what is left goes on with k backslashes right before.
pub record Midway (batch : Bool) (k₀ : ℕ) (xs : List ℕ) (at : ℕ) (start : List ℕ) (i to k : ℕ) (now : List ℕ) : Type 0 where
  pub left : Left (stretch batch k₀ xs) at start (stretch batch k (drop i xs)) to now
  pub count : slashes_behind k (drop i xs) ≡ slashes_behind k₀ xs
  pub few : k ≤ k₀ + i

module _ {batch : Bool} {k₀ : ℕ} {xs : List ℕ} {at : ℕ} {start : List ℕ} where
  -- nothing is written yet
  pub at_front : Midway batch k₀ xs at start 0 at k₀ start
  at_front = record { left = record { counts = refl; stores = refl }; count = refl; few = omega arith }

  -- a part more
  pub part_further : (i m : ℕ) {to to' k k' : ℕ} {now next : List ℕ} → Midway batch k₀ xs at start i to k now → Emits batch k (part xs i m) to to' k' now next
      → i + m ≤ length xs → Midway batch k₀ xs at start (i + m) to' k' next
  part_further i m {k = k} g e h =
      let p : stretch batch k (drop i xs) ≡ stretch batch k (part xs i m) ++ stretch batch (slashes_behind k (part xs i m)) (drop (i + m) xs) =
      rw (rest_cut xs i m) at (stretch_append batch k (part xs i m) (drop (i + m) xs)) in
      let c : slashes_behind k (drop i xs) ≡ slashes_behind (slashes_behind k (part xs i m)) (drop (i + m) xs) = rw (rest_cut xs i m) at (behind_append k (part xs i m) (drop (i + m) xs)) in
      record {
        left = rw e.counts (less_left (rw p at g.left) e.places);
        count = rw e.counts (sym c ∙ g.count);
        few = omega (arith, e.counts, trailing_in is_backslash k (part xs i m), part_length xs i m h, g.few);
      }

  -- all is written
  pub at_end_lem : {i to k : ℕ} {now : List ℕ} → Midway batch k₀ xs at start i to k now → length xs ≤ i → Emits batch k₀ xs at to k start now
  unfolding stretch trailing_from
  at_end_lem {i} {to} {k} g h =
      let z : drop i xs ≡ [] = drop_of_length-le xs {i = i} h in
      let l : Left (stretch batch k₀ xs) at start [] to _ = rw z at g.left in
      record { places = record { ends = sym (add-zero to) ∙ l.counts; stores = l.stores }; counts = rw z at g.count }

  -- a part more has places below the end
  pub room_further : (i m : ℕ) {to k : ℕ} {now : List ℕ} → Midway batch k₀ xs at start i to k now → to + length (stretch batch k (part xs i m)) ≤ at + length (stretch batch k₀ xs)
  room_further i m {k = k} g =
      let p : length (stretch batch k (drop i xs)) ≡ length (stretch batch k (part xs i m)) + length (stretch batch (slashes_behind k (part xs i m)) (drop (i + m) xs)) =
      rw length-append at (ap length (rw (rest_cut xs i m) at (stretch_append batch k (part xs i m) (drop (i + m) xs)))) in
      omega (arith, g.left.counts, p)

  module _ (i n : ℕ) {rest : List ℕ} (w : rest ≡ drop i xs) (p : PlainFront batch rest n) where
    -- units that are written as they are have places below the end
    pub plain_room : {to k : ℕ} {now : List ℕ} → Midway batch k₀ xs at start i to k now → to + n ≤ at + length (stretch batch k₀ xs)
    plain_room {k = k} g =
        let e : length (stretch batch k (part xs i n)) ≡ n = rw (← w, p.itself k, length-take-le n rest p.inside) in
        omega (arith, e, room_further i n g)

    -- and are copied
    pub plain_further : {to k last : ℕ} {now next : List ℕ} → Midway batch k₀ xs at start i to k now → i ≤ length xs → next ≡ sets now to (take n rest)
        → last ≡ pick (eqb n 0) k 0 → Midway batch k₀ xs at start (i + n) (to + n) last next
    plain_further {to} {k} {last} {now} {next} g h s c =
        let e : Emits batch k (take n rest) to (to + n) last now next =
        record {
          places = record { ends = rw (p.itself k, length-take-le n rest p.inside); stores = rw (p.itself k) s };
          counts = c ∙ sym (p.leaves k);
        } in
        part_further i n g (rw w at e) (omega (arith, p.inside, ap length w, length-drop i xs))

  -- no place is gained or lost
  pub same_places : {i to k : ℕ} {now : List ℕ} → Midway batch k₀ xs at start i to k now → length now ≡ length start
  same_places g = same_left g.left
