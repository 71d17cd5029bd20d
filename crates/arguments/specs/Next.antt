-- One argument from the front of the rest of a line, and what is left behind it. Assumes nothing.
use Rattle.std.specs.Prelude.{ℕ, ◌+◌, ◌/◌, ◌≤◌, ◌<◌, ◌≡◌, Bool, true, false, List, [], ◌∷◌, ◌++◌, length, drop}
use Rattle.std.proofs.lemmas.List.Edits.{sets}
use Rattle.rules.specs.Choice.{pick, both}
use Rattle.rules.specs.Unit.{is_quote, is_backslash, is_blank, quote}
use Rattle.rules.specs.Quoting.{slashes}
use Rattle.rules.specs.Reading.{Mode, between, outside, inside, closing, taking, outside_quotes, odd, argument0, behind0}

-- an argument, and the units behind it and the blank that ends it
pub record Next : Type 0 where
  pub argument : List ℕ
  pub behind : List ℕ

-- the same with units in front of the argument
abbrev pub with_front : List ℕ → Next → Next
with_front units n = record { argument = units ++ n.argument; behind = n.behind }

-- argument 0 from a place in it, where q says whether quoted mode is on
abbrev pub first_argument : Bool → List ℕ → Next
first_argument q rest = record { argument = argument0 q rest; behind = behind0 q rest }

-- a quote mark that is handled as a quote, where `go` reads on in a mode: `mark` of the rules for one argument
abbrev pub next_marked : Mode → (Mode → Next) → Next
next_marked between go = go inside
next_marked outside go = go inside
next_marked inside go = go closing
next_marked closing go = with_front (quote ∷ []) (go inside)

-- A later argument from a mode, with k backslashes just passed: `later` of the rules for one argument, which is at its end where the line is.
unfoldable pub next_argument : Mode → ℕ → List ℕ → Next
unfolding taking outside_quotes
next_argument m k [] = record { argument = slashes k; behind = [] }
next_argument m k (x ∷ xs) =
    let counted = next_argument (taking m) (k + 1) xs in
    let literal = with_front (slashes (k / 2) ++ quote ∷ []) (next_argument (taking m) 0 xs) in
    let handled = with_front (slashes (k / 2)) (next_marked m (λ m'. next_argument m' 0 xs)) in
    let quoting = pick (odd k) literal handled in
    let ended : Next = record { argument = slashes k; behind = xs } in
    let kept = with_front (slashes k ++ x ∷ []) (next_argument (taking m) 0 xs) in
    let plain = pick (both (outside_quotes m) (is_blank x)) ended kept in
    let other = pick (is_quote x) quoting plain in
    pick (is_backslash x) counted other

-- the mode of a reader that stands in a later argument, by whether quoted mode is on
abbrev pub mode : Bool → Mode
mode true = inside
mode false = outside

-- a later argument from a place in it
abbrev pub later_argument : Bool → List ℕ → Next
later_argument q rest = next_argument (mode q) 0 rest

-- One argument was read from the front of a rest: `used` units make it and what ends it, it has `units` units, and they stand at the front of the
-- output, as far as there is room.
pub record OneRead (n : Next) (rest before after : List ℕ) (used units : ℕ) : Type 0 where
  pub behind : drop used rest ≡ n.behind
  pub within : used ≤ length rest
  pub counts : units ≡ length n.argument
  pub stores : after ≡ sets before 0 n.argument
  pub some : 0 < length rest → 0 < used
  pub few : units ≤ used
