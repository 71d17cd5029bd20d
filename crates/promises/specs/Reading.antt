-- When a line that is read is refused, and when its arguments are given. Assumes nothing.
-- "Reading: 2, 3, 4."
use Rattle.std.specs.Prelude.{ℕ, ◌≤◌, ◌<◌, ◌≡◌, ◌↔◌, true, length}
use Rattle.std.proofs.Math.Path.{refl}
use mathlib.Core.List.{List, [], ◌∷◌}
use Rattle.rules.specs.Outcome.{Outcome, done, refused}
use Rattle.rules.specs.Reading.{read_limit, arguments_read, units_read, joined, places_of, reading}
use Rattle.laws.specs.Order.{◌and◌, given, unnumbered, Step, most, only, accepted, refused_most}

module _ (executable lent : List ℕ) (room numbers : ℕ) where
  -- what reading comes to
  abbrev read : Outcome (List (List ℕ))
  read = reading executable lent room numbers

  -- the arguments
  abbrev args : List (List ℕ)
  args = arguments_read executable lent

  -- the units that the limit counts: those of the line up to the first NUL or, where it is empty, of the executable name
  abbrev size : ℕ
  size = length (units_read executable lent)

  -- ---- the steps of the order

  -- 2 for the line or the name
  abbrev two : Step
  two = most 2 read_limit size

  -- 3 for the table
  abbrev three : Step
  three = most 3 (places_of numbers) (length args)

  -- 4 for the output
  abbrev four : Step
  four = most 4 room (length (joined args))

  -- ---- exactly when

  -- only 2, 3 and 4 are given, each at place 0
  pub read_only : (number place : ℕ) → read ≡ refused number place → given (2 ∷ 3 ∷ 4 ∷ []) [] number place ≡ true
  unfolding reading
  read_only number place e = only args (two ∷ three ∷ four ∷ []) number place e

  -- 2: the line or, where it is empty, the executable name has more units than the limit
  pub read_length : (read ≡ refused 2 0) ↔ (read_limit < size)
  unfolding reading
  read_length = refused_most args 2 [] _ _ (three ∷ four ∷ []) refl refl

  -- 3: the span table has fewer places than there are arguments
  pub read_places : (read ≡ refused 3 0) ↔ ((size ≤ read_limit) and (places_of numbers < length args))
  unfolding reading
  read_places = refused_most args 3 (two ∷ []) _ _ (four ∷ []) refl refl

  -- 4: the output has fewer units than the texts
  pub read_room : (read ≡ refused 4 0) ↔ ((size ≤ read_limit) and (length args ≤ places_of numbers) and (room < length (joined args)))
  unfolding reading
  read_room = refused_most args 4 (two ∷ three ∷ []) _ _ [] refl refl

  -- the arguments are given where nothing of this applies
  pub read_given : (result : List (List ℕ)) → (read ≡ done result)
      ↔ ((size ≤ read_limit) and (length args ≤ places_of numbers) and (length (joined args) ≤ room) and (args ≡ result))
  unfolding reading
  read_given result = accepted args (two ∷ three ∷ four ∷ []) result

  -- no refusal has the number 0
  pub read_numbered : (place : ℕ) → ¬ (read ≡ refused 0 place)
  read_numbered place e = unnumbered (2 ∷ 3 ∷ 4 ∷ []) [] place refl refl (read_only 0 place e)

  -- what is given is what is read, and output and table have room for it
  pub read_whole : (result : List (List ℕ)) → read ≡ done result → (length (joined result) ≤ room) × (length result ≤ places_of numbers) × (args ≡ result)
  read_whole result e = let (_, (places, (fits, made))) = (read_given result).0 e in (rw (← made) fits, rw (← made) places, made)
