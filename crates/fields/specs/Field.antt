-- The fields of words, and what a text and a table of numbers hold once they are taken. Assumes nothing.
use Rattle.std.specs.Prelude.{ℕ, ◌+◌, ◌/◌, ◌%◌, ◌≤◌, ◌<◌, ◌≡◌, List, [], ◌∷◌, ◌++◌, length, take, Option, Some, None, IfSome}
use Rattle.forms.specs.Text.{text_of}
use Rattle.forms.specs.Number.{number_of}
use Rattle.fields.specs.declared.taking.Field.{Field}
use Rattle.fields.specs.declared.taking.Held.{Held}

-- numbers, and a text that they name parts of
pub record Flat : Type 0 where
  pub numbers : List ℕ
  pub text : List ℕ

-- what follows from what was taken; nothing follows what is not in its form
abbrev pub follow : {A B : Type 0} → Option A → (A → Option B) → Option B
follow (Some a) next = next a
follow None next = None

-- numbers behind those that there are
abbrev pub counted : Flat → List ℕ → Flat
counted flat new = record { numbers = flat.numbers ++ new; text = flat.text }

-- a text behind the one that there is, and its start and length behind the numbers
abbrev pub spanned : Flat → List ℕ → Flat
spanned flat units = record { numbers = flat.numbers ++ (length flat.text ∷ length units ∷ []); text = flat.text ++ units }

-- what there is with one field more: a number, the halves of a wide one, or a text
unfoldable pub field_on : Field → Flat → List ℕ → Option Flat
unfolding number_of text_of
field_on (Field.Count most) flat word = follow (number_of most word) (λ n. Some (counted flat (n ∷ [])))
field_on Field.Wide flat word = follow (number_of 18446744073709551615 word) (λ n. Some (counted flat (n % 4294967296 ∷ n / 4294967296 ∷ [])))
field_on (Field.Text colons) flat word = follow (text_of colons word) (λ units. Some (spanned flat units))

-- ---- contracts

-- what is held in front of a lent text and a lent table
abbrev pub held_in : Held → List ℕ → List ℕ → Flat
held_in h text numbers = record { numbers = take h.count numbers; text = take h.units text }

-- what an answer says is held
abbrev pub holding_said : Option Held → List ℕ → List ℕ → Option Flat
holding_said (Some h) text numbers = Some (held_in h text numbers)
holding_said None text numbers = None

-- numbers are put behind those that are held, and so many units are held then
pub record Pushed (h : Held) (new : List ℕ) (units : ℕ) (r : Held) (before after : List ℕ) : Type 0 where
  pub holds : take r.count after ≡ take h.count before ++ new
  pub counts : r.count ≡ h.count + length new
  pub texts : r.units ≡ units

-- there is room for what so many bytes come to
pub record Room (h : Held) (size text numbers : ℕ) : Type 0 where
  pub few : h.units + size ≤ 400000
  pub texts : h.units + size ≤ text
  pub lists : h.count + size < numbers

-- what so many bytes come to takes no more units, and no more numbers but one
abbrev pub grows_in : Held → ℕ → Option Held → Type 0
grows_in h size r = IfSome r (λ k. (k.units ≤ h.units + size) × (k.count ≤ h.count + size + 1))

-- what there is with more behind it is held in front of the lent text and table
pub record Grew (t : Option Flat) (size : ℕ) (h : Held) (r : Option Held) (text numbers : List ℕ) : Type 0 where
  pub says : holding_said r text numbers ≡ t
  pub within : grows_in h size r
