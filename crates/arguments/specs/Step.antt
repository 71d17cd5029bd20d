-- The steps of a reader through a later argument: a run of plain units, a run of backslashes, a quote mark. Assumes nothing.
use Rattle.std.specs.Prelude.{ℕ, ◌+◌, ◌/◌, ◌≡◌, Bool, true, false, List, [], ◌∷◌, ◌++◌, length, take, drop}
use Rattle.std.proofs.lemmas.List.Edits.{sets}
use Rattle.rules.specs.Choice.{pick, is_empty}
use Rattle.rules.specs.Unit.{is_quote, is_backslash, quote}
use Rattle.rules.specs.Quoting.{slashes}
use Rattle.rules.specs.Reading.{odd}
use Rattle.laws.specs.Scan.{leading}
use Rattle.arguments.specs.declared.steps.Point.{Point}
use Rattle.laws.specs.Run.{starts_with}
use Rattle.arguments.specs.Run.{is_taken}

-- how many units of the rest a step takes, which units of the argument they give, and whether quoted mode is on behind it
pub record OneStep : Type 0 where
  pub used : ℕ
  pub given : List ℕ
  pub quoted : Bool

-- a step by its three parts
abbrev pub by : ℕ → List ℕ → Bool → OneStep
by used given quoted = record { used = used; given = given; quoted = quoted }

-- A quote mark that is handled as a quote, by what stands behind it: "A quote outside quotes opens quoted mode. Inside, a quote followed by a quote
-- gives one literal quote; followed by another unit it closes; as the last unit of the line it ends the reading with quoted mode still set."
abbrev pub mark_step : Bool → List ℕ → OneStep
mark_step q behind =
    let inside = pick (is_empty behind) (by 1 [] true) (pick (starts_with is_quote behind) (by 2 (quote ∷ []) true) (by 1 [] false)) in
    pick q inside (by 1 [] true)

-- k backslashes, by what stands behind them: "A run of k backslashes followed by a quote gives k/2 backslashes, rounded down; if k is odd the quote
-- is literal and consumed, else it is handled as a quote. A run not followed by a quote is literal."
abbrev pub slash_step : Bool → ℕ → List ℕ → OneStep
slash_step q k behind =
    let escaping = pick (odd k) (by (k + 1) (slashes (k / 2) ++ quote ∷ []) q) (by k (slashes (k / 2)) q) in
    pick (starts_with is_quote behind) escaping (by k (slashes k) q)

-- a run of n units that are taken as they are
abbrev pub plain_step : Bool → ℕ → List ℕ → OneStep
plain_step q n here = by n (take n here) q

-- the run of backslashes at the front of a rest
abbrev pub slashes_at : Bool → List ℕ → OneStep
slashes_at q here = let k = leading is_backslash here in slash_step q k (drop k here)

-- the step at the front of a rest
unfoldable pub step_at : Bool → List ℕ → OneStep
step_at q here =
    let plain = plain_step q (leading (is_taken q) here) here in
    pick (starts_with is_quote here) (mark_step q (drop 1 here)) (pick (starts_with is_backslash here) (slashes_at q here) plain)

-- A step was taken from a point: its units stand in the output from there on, as far as there is room, and the answer is the point behind it.
pub record Stepped (s : OneStep) (here : Point) (before after : List ℕ) (there : Point) : Type 0 where
  pub uses : there.used ≡ here.used + s.used
  pub counts : there.units ≡ here.units + length s.given
  pub turns : there.quoted ≡ s.quoted
  pub stores : after ≡ sets before here.units s.given
