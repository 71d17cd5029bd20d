-- An entry's key, and the place of a part in a table. Assumes nothing.
use Rattle.std.proofs.Common.{ℕ, ◌+◌, ◌-◌, ◌≤◌, ◌<◌, ◌≡◌, refl, ◌∙◌, add-one, arith, true, false, List, [], ◌∷◌, length, length-drop, take, drop, set, le-leb}
use Rattle.std.proofs.lemmas.Bool.{lt-leb}
use Rattle.laws.specs.Scan.{before, leading_in}
use Rattle.laws.specs.Store.{part_is}
use Rattle.rules.specs.Choice.{flip}
use Rattle.rules.specs.Unit.{is_equals}
use Rattle.terminal.specs.Number.{largest}
use Rattle.terminal.specs.Word.{key_length, is_place, Spanned}

-- ---- an entry's key

-- no units
pub no_key : (xs : List ℕ) → length xs ≡ 0 → key_length xs ≡ 0
unfolding key_length
no_key [] h = refl
no_key (x ∷ xs) h = absurd (omega arith)

-- behind the first unit
pub key_behind : (xs : List ℕ) (n : ℕ) → 0 < length xs → n ≡ before is_equals (take (length xs - 1) (drop 1 xs)) → 1 + n ≡ key_length xs
unfolding key_length
key_behind [] n h e = absurd (omega arith)
key_behind (x ∷ xs) n h e = let f : n ≡ before is_equals xs = rw (part_is 1 (x ∷ xs)) at e in rw f (omega arith)

-- a key is no longer than the entry
pub key_in : (xs : List ℕ) (n : ℕ) → 0 < length xs → n ≡ before is_equals (take (length xs - 1) (drop 1 xs)) → 1 + n ≤ length xs
key_in xs n h e =
    let l = rw length-drop at (leading_in (λ x. flip (is_equals x)) (drop 1 xs)) in
    omega (arith, rw part_is at e)

pub ruleset keys = (no_key, key_behind, key_in)

-- ---- the place of a part

module _ (table : List ℕ) (at start size : ℕ) where
  -- no place
  pub no_place : length table < at + 2 → Spanned at start size false table table
  unfolding is_place
  no_place h = record { says = rw (lt-leb (at + 2) (length table) h); stores = refl }

  module _ (place : at + 2 ≤ length table) where
    -- too large a start
    pub far_start : largest < start → Spanned at start size false table table
    unfolding is_place
    far_start h = record { says = rw (le-leb (at + 2) (length table) place, lt-leb start largest h); stores = refl }

    module _ (near : start ≤ largest) where
      -- too large a length
      pub far_length : largest < size → Spanned at start size false table table
      unfolding is_place
      far_length h = record { says = rw (le-leb (at + 2) (length table) place, le-leb start largest near, lt-leb size largest h); stores = refl }

      -- both are put
      pub both_put : size ≤ largest → {middle after : List ℕ} → middle ≡ set table at start → after ≡ set middle (at + 1) size → Spanned at start size true table after
      unfolding is_place
      both_put h e f =
          record {
            says = rw (le-leb (at + 2) (length table) place, le-leb start largest near, le-leb size largest h);
            stores = f ∙ rw (e, add-one at);
          }

pub ruleset places = (no_place, far_start, far_length)
