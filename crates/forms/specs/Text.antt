-- The units that a word comes to, and what a lent text holds once they are put into it. Assumes nothing.
use Rattle.std.specs.Prelude.{ℕ, ◌+◌, ◌≤◌, ◌≡◌, Bool, false, List, [], ◌∷◌, ◌++◌, eqb, length, take, Option, Some, None}
use Rattle.rules.specs.Choice.{pick, both}
use Rattle.forms.specs.Form.{step_of, is_plain, hex_value}
use Rattle.forms.specs.declared.steps.Spot.{Spot}
use Rattle.forms.specs.declared.steps.Step.{Step}

-- what bytes come to behind units that are there already
abbrev pub behind : List ℕ → Option (List ℕ) → Option (List ℕ)
behind front (Some more) = Some (front ++ more)
behind front None = None

-- at the end of the bytes a reader stands between two units
abbrev pub at_end : Spot → Option (List ℕ)
at_end Spot.Outside = Some []
at_end Spot.Opened = None
at_end (Spot.Inside value) = None

-- what follows a step
abbrev pub onward : Option Step → (Spot → Option (List ℕ)) → Option (List ℕ)
onward (Some (Step.Unit unit)) next = behind (unit ∷ []) (next Spot.Outside)
onward (Some (Step.Still spot)) next = next spot
onward None next = None

-- the units of bytes from a spot on
unfoldable pub units_from : Bool → Spot → List ℕ → Option (List ℕ)
unfolding is_plain hex_value
units_from colons spot [] = at_end spot
units_from colons spot (x ∷ xs) = onward (step_of colons spot x) (λ next. units_from colons next xs)

-- the units of bytes one after another
abbrev pub each_of : Bool → List ℕ → Option (List ℕ)
each_of colons xs = units_from colons Spot.Outside xs

-- the bytes are `{}`
unfoldable pub is_braces : List ℕ → Bool
is_braces [] = false
is_braces (x ∷ []) = false
is_braces (x ∷ y ∷ []) = both (eqb x 123) (eqb y 125)
is_braces (x ∷ y ∷ z ∷ more) = false

-- the units of a word: `{}` is the empty text, and an empty word is none
unfoldable pub text_of : Bool → List ℕ → Option (List ℕ)
unfolding is_braces units_from
text_of colons [] = None
text_of colons (x ∷ xs) = pick (is_braces (x ∷ xs)) (Some []) (each_of colons (x ∷ xs))

-- what a filling says: the units up to its end, or that there are none
abbrev pub filled_to : ℕ → Option ℕ → List ℕ → Option (List ℕ)
filled_to to (Some n) text = Some (take (to + n) text)
filled_to to None text = None

-- how many units a filling put
abbrev pub units_of : Option ℕ → ℕ
units_of (Some n) = n
units_of None = 0

-- what a word comes to is put behind what the lent text holds in front of `to`; it has no more units than the word has bytes
pub record Filled (t : Option (List ℕ)) (size to : ℕ) (r : Option ℕ) (before after : List ℕ) : Type 0 where
  pub fills : filled_to to r after ≡ behind (take to before) t
  pub short : units_of r ≤ size
  pub same : length after ≡ length before
