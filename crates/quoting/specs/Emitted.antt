-- The forms of ordinary and of batch arguments, said in the order in which their units are written. Assumes nothing.
use Rattle.std.specs.Prelude.{ℕ, ◌+◌, ◌≤◌, ◌≡◌, Bool, List, [], ◌∷◌, ◌++◌, eqb, length, take}
use Rattle.rules.specs.Choice.{pick, both, flip, any}
use Rattle.rules.specs.Unit.{units, is_backslash, is_quote, quote, percent, backslash}
use Rattle.rules.specs.Quoting.{slashes}
use Rattle.rules.specs.Batch.{ends_in_backslash}
use Rattle.laws.specs.Placed.{Placed}
use Rattle.laws.specs.Scan.{is_either, trailing_from}

-- ---- one unit

-- the unit that is replaced beside the quote mark: in a batch argument `%`, else no other
abbrev pub other_mark : Bool → ℕ
other_mark batch = pick batch percent quote

-- whether a unit is replaced: a quote mark, in a batch argument a `%` too
abbrev pub is_mark : Bool → ℕ → Bool
is_mark batch x = is_either quote (other_mark batch) x

-- what stands for a mark behind k backslashes that are written already
unfoldable pub mark_for : Bool → ℕ → ℕ → List ℕ
unfolding units
mark_for batch x k =
    let marks = slashes k ++ pick batch quote backslash ∷ quote ∷ [] in
    pick (is_quote x) marks (units "%%cd:~,%")

-- what stands for a unit behind k backslashes that are written already
unfoldable pub units_for : Bool → ℕ → ℕ → List ℕ
unfolding mark_for
units_for batch k x = pick (is_mark batch x) (mark_for batch x k) (x ∷ [])

-- how many backslashes stand right before the unit behind x, where k stand before x
abbrev pub count_on : ℕ → ℕ → ℕ
count_on k x = pick (is_backslash x) (k + 1) 0

-- ---- an argument

-- the units that are written for a part of an argument behind k backslashes that are written already; the backslashes at its end are written once
unfoldable pub stretch : Bool → ℕ → List ℕ → List ℕ
unfolding units_for
stretch batch k [] = []
stretch batch k (x ∷ xs) = units_for batch k x ++ stretch batch (count_on k x) xs

-- how many backslashes a part of an argument ends in, where k stand right before it
abbrev pub slashes_behind : ℕ → List ℕ → ℕ
slashes_behind k xs = trailing_from is_backslash k xs

-- the units that are written for an argument; where it stands in quotes, as q says, the backslashes at its end are written once more
unfoldable pub emitted : Bool → Bool → ℕ → List ℕ → List ℕ
unfolding stretch
emitted batch q k xs = stretch batch k xs ++ slashes (pick q (slashes_behind k xs) 0)

-- the quote mark before and behind an argument that stands in quotes
abbrev pub edge : Bool → List ℕ
edge q = pick q (quote ∷ []) []

-- the units that are written for an argument, with the quotes round it
unfoldable pub formed : Bool → Bool → List ℕ → List ℕ
unfolding emitted
formed batch q xs = edge q ++ emitted batch q 0 xs ++ edge q

-- The contract of a routine that writes a part of an argument behind k backslashes: it tells the place behind, and the backslashes right before that.
pub record Emits (batch : Bool) (k : ℕ) (xs : List ℕ) (from to last : ℕ) (before after : List ℕ) : Type 0 where
  pub places : Placed (stretch batch k xs) from to before after
  pub counts : last ≡ slashes_behind k xs

-- ---- what is written as it is

-- whether units are written as they are, and leave no backslash before what follows: there is no mark, and the last is no backslash
abbrev pub is_all_plain : Bool → List ℕ → Bool
is_all_plain batch xs = both (flip (ends_in_backslash xs)) (flip (any (is_mark batch) xs))

-- the first n units are written as they are; where there are any, they leave no backslash before what follows
pub record PlainFront (batch : Bool) (xs : List ℕ) (n : ℕ) : Type 0 where
  pub inside : n ≤ length xs
  pub itself : (k : ℕ) → stretch batch k (take n xs) ≡ take n xs
  pub leaves : (k : ℕ) → slashes_behind k (take n xs) ≡ pick (eqb n 0) k 0
