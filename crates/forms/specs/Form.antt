-- The one form of a text: what the bytes of units are, and what units bytes come to. Assumes nothing.
-- "A text is its units: 33 to 126 except `{` and `}` as themselves, every other as `{hex}` (lower case, no leading zeros ..); the empty text is
-- `{}`. This form is the only one." "In KEY and VALUE of a question a colon is `{3a}`; everywhere else a colon stands for itself."
use Rattle.std.specs.Prelude.{ℕ, ◌+◌, ◌-◌, ◌*◌, Bool, List, [], ◌∷◌, ◌++◌, eqb, leb, ltb, Option, Some, None, option_map}
use Rattle.rules.specs.Choice.{pick, either, both, flip}
use Rattle.rules.specs.Unit.{units, within, is_digit}
use Rattle.octets.specs.Braced.{braced}
use Rattle.forms.specs.declared.steps.Spot.{Spot}
use Rattle.forms.specs.declared.steps.Step.{Step}

-- ---- the bytes of units

-- a unit that stands for itself; a colon does where colons do
unfoldable pub is_plain : Bool → ℕ → Bool
is_plain colons x = both (within 33 126 x) (both (flip (either (eqb x 123) (eqb x 125))) (either (flip (eqb x 58)) colons))

-- the bytes of one unit
unfoldable pub shown_unit : Bool → ℕ → List ℕ
unfolding is_plain braced
shown_unit colons x = pick (is_plain colons x) (x ∷ []) (braced x)

-- what each element comes to, one after another
unfoldable pub each : {A : Type 0} → (A → List ℕ) → List A → List ℕ
each f [] = []
each f (x ∷ xs) = f x ++ each f xs

-- the bytes of a text
unfoldable pub shown : Bool → List ℕ → List ℕ
unfolding units each shown_unit
shown colons [] = units "{}"
shown colons (x ∷ xs) = each (shown_unit colons) (x ∷ xs)

-- ---- the units of bytes

-- the value of a hexadecimal digit in lower case
unfoldable pub hex_value : ℕ → Option ℕ
hex_value x = pick (is_digit x) (Some (x - 48)) (pick (within 97 102 x) (Some (x - 87)) None)

-- a byte between two units
abbrev pub step_outside : Bool → ℕ → Option Step
step_outside colons x = pick (is_plain colons x) (Some (Step.Unit x)) (pick (eqb x 123) (Some (Step.Still Spot.Opened)) None)

-- a byte behind a `{`
abbrev pub step_opened : ℕ → Option Step
step_opened x = option_map (λ digit. Step.Still (Spot.Inside digit)) (hex_value x)

-- a digit may follow digits of this value: there is no leading zero and there are not four yet
abbrev pub is_open : ℕ → Bool
is_open value = both (ltb 0 value) (leb value 4095)

-- a byte behind digits of the value given
abbrev pub step_inside : Bool → ℕ → ℕ → Option Step
step_inside colons value x =
    let closed = pick (is_plain colons value) None (Some (Step.Unit value)) in
    let further = pick (is_open value) (option_map (λ digit. Step.Still (Spot.Inside (value * 16 + digit))) (hex_value x)) None in
    pick (eqb x 125) closed further

-- a byte at a spot
abbrev pub step_of : Bool → Spot → ℕ → Option Step
step_of colons Spot.Outside x = step_outside colons x
step_of colons Spot.Opened x = step_opened x
step_of colons (Spot.Inside value) x = step_inside colons value x
