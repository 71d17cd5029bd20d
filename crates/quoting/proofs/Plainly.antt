-- Units that are written as they are, found by eights; an argument of such units alone. Assumes nothing.
use Prim.Native.Nat.{ℕ, ◌+◌, ◌-◌, ◌≤◌, ◌<◌, zero-le}
use native.Mathlib.Omega.{arith}
use borrow.Author.Tests.{ne_eqb}
use mathlib.Core.Path.{◌≡◌, refl, sym, ◌∙◌}
use mathlib.Core.Bool.{Bool, true, false, not}
use mathlib.Core.List.{List, ◌++◌, append-nil}
use lib.Dec.{eqb}
use lib.ListN.{length, take, get_or}
use lib.Seq.{take-add, get_or-take, get_or-drop}
use Rattle.rules.specs.Choice.{pick, both, flip, any, is_empty}
use Rattle.rules.specs.Unit.{is_backslash}
use Rattle.rules.specs.Batch.{ends_in_backslash}
use Rattle.rules.specs.Record.{part}
use Rattle.laws.specs.Any.{part_length}
use Rattle.laws.specs.Scan.{trailing_from}
use Rattle.quoting.specs.Emitted.{is_mark, is_all_plain, PlainFront, stretch, slashes_behind, emitted, edge, formed}
use Rattle.laws.specs.Last.{last_unit}
use Rattle.laws.specs.Empty.{filled}
use Rattle.quoting.proofs.Emitting.{stretch_append, behind_append, stretch_itself, none_behind}

-- both tests of plain units fail
apart_plain : (a b : Bool) → both (flip a) (flip b) ≡ true → (a ≡ false) × (b ≡ false)
apart_plain true b h = (sym h, cc)
apart_plain false true h = (refl, sym h)
apart_plain false false h = (refl, refl)

-- units without mark are, where the last is no backslash
pub unmarked : (a b c : Bool) → b ≡ false → c ≡ a → not c ≡ both (flip a) (flip b)
unmarked a b true h e = rw (h, ← e)
unmarked a b false h e = rw (h, ← e)

-- the last unit of a part of eight
pub eighth : (xs : List ℕ) (i : ℕ) → i + 8 ≤ length xs → is_backslash (get_or xs (i + 7) 0) ≡ ends_in_backslash (part xs i 8)
eighth xs i h = let l : 8 - 1 < 8 = omega arith in rw (part_length xs i 8 h, get_or-take, get_or-drop) at (last_unit (part xs i 8))

module _ (batch : Bool) (xs : List ℕ) (h : is_all_plain batch xs ≡ true) where
  -- plain units are written as they are
  plain_itself : (k : ℕ) → stretch batch k xs ≡ xs
  plain_itself k = stretch_itself batch k xs (apart_plain (ends_in_backslash xs) (any (is_mark batch) xs) h).1

  -- and leave no backslash, where there are any
  plain_leaves : (k : ℕ) → slashes_behind k xs ≡ pick (is_empty xs) k 0
  plain_leaves k = none_behind k xs (apart_plain (ends_in_backslash xs) (any (is_mark batch) xs) h).0

  -- a plain argument is its own form, but for the quotes round it
  pub plain_formed : (q : Bool) → formed batch q xs ≡ edge q ++ xs ++ edge q
  unfolding formed emitted
  plain_formed q = let z : ◌≡◌ {A = ℕ} (pick q (slashes_behind 0 xs) 0) 0 = rw (plain_leaves 0) (go q (is_empty xs)) in rw (plain_itself 0, z, append-nil)
    where
      go : (q b : Bool) → ◌≡◌ {A = ℕ} (pick q (pick b 0 0) 0) 0
      go true true = refl
      go true false = refl
      go false b = refl

-- at the front there are none
pub none_plain : (batch : Bool) (xs : List ℕ) → PlainFront batch xs 0
unfolding stretch trailing_from
none_plain batch xs = record { inside = zero-le; itself = λ k. refl; leaves = λ k. refl }

-- eight more
pub eight_more : (batch : Bool) (xs : List ℕ) (n : ℕ) → PlainFront batch xs n → n + 8 ≤ length xs → is_all_plain batch (part xs n 8) ≡ true → PlainFront batch xs (n + 8)
eight_more batch xs n p l h =
    let t = take-add n 8 xs in
    let some : is_empty (part xs n 8) ≡ false = filled (part xs n 8) (λ e. omega (arith, e, part_length xs n 8 l)) in
    let more : eqb (n + 8) 0 ≡ false = ne_eqb (n + 8) 0 (λ e. omega arith) in
    record {
      inside = l;
      itself = λ k. rw (t, stretch_append batch k (take n xs) (part xs n 8), p.itself k, plain_itself batch (part xs n 8) h);
      leaves = λ k. rw (t, behind_append k (take n xs) (part xs n 8), more) (plain_leaves batch (part xs n 8) h (slashes_behind k (take n xs)) ∙ rw some);
    }
