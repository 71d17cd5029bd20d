-- Arguments that are to be laid out: what is refused for want of places or room, and when nothing can be. Assumes nothing.
use Rattle.std.specs.Prelude.{ℕ, ◌+◌, ◌≤◌, ◌<◌, ◌≡◌, Bool, List, ltb, leb, length}
use Rattle.rules.specs.Choice.{both}
use Rattle.rules.specs.Outcome.{Outcome, done, refuse}
use Rattle.rules.specs.Reading.{joined, places_of}

-- a line, or where it is empty the executable name, whose units a span's numbers can count
abbrev pub Short : List ℕ → List ℕ → Type 0
Short line executable = (length line < 2147483648) × (length line ≡ 0 → length executable < 2147483648)

-- 3, then 4: what reading comes to behind refusal 2
abbrev pub housed : List (List ℕ) → ℕ → ℕ → Outcome (List (List ℕ))
housed args room numbers = refuse 3 (ltb (places_of numbers) (length args)) (refuse 4 (ltb room (length (joined args))) (done args))

-- output and table have room for the arguments
pub record Housed (args : List (List ℕ)) (room numbers : ℕ) : Type 0 where
  pub places : length args ≤ places_of numbers
  pub text : length (joined args) ≤ room

-- so many units read surely have room: they give at most as many text units, and an argument for every two units and one more
abbrev pub sure : ℕ → ℕ → ℕ → Bool
sure units room numbers = both (leb units room) (leb (units + 2) numbers)
