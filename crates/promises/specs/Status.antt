-- When a status text is refused, and when it is given. Assumes nothing.
-- "Status text: only 4."
use Rattle.std.specs.Prelude.{ℕ, ◌≤◌, ◌<◌, ◌≡◌, ◌↔◌, true, length}
use Rattle.std.proofs.Math.Path.{refl}
use mathlib.Core.List.{List, [], ◌∷◌}
use Rattle.rules.specs.Outcome.{Outcome, done, refused}
use Rattle.rules.specs.Status.{status_text, status_outcome}
use Rattle.laws.specs.Order.{◌and◌, given, unnumbered, Step, most, only, accepted, refused_most}

module _ (status room : ℕ) where
  -- what asking for the text comes to
  abbrev told : Outcome (List ℕ)
  told = status_outcome status room

  -- the one step of the order
  abbrev four : Step
  four = most 4 room (length (status_text status))

  -- only 4 is given, at place 0
  pub status_only : (number place : ℕ) → told ≡ refused number place → given (4 ∷ []) [] number place ≡ true
  unfolding status_outcome
  status_only number place e = only (status_text status) (four ∷ []) number place e

  -- 4: the output has fewer units than the text
  pub status_room : (told ≡ refused 4 0) ↔ (room < length (status_text status))
  unfolding status_outcome
  status_room = refused_most (status_text status) 4 [] _ _ [] refl refl

  -- the text is given where it has room
  pub status_given : (result : List ℕ) → (told ≡ done result) ↔ ((length (status_text status) ≤ room) and (status_text status ≡ result))
  unfolding status_outcome
  status_given result = accepted (status_text status) (four ∷ []) result

  -- no refusal has the number 0
  pub status_numbered : (place : ℕ) → ¬ (told ≡ refused 0 place)
  status_numbered place e = unnumbered (4 ∷ []) [] place refl refl (status_only 0 place e)

  -- what is given is the whole text, and the output has room for it
  pub status_whole : (result : List ℕ) → told ≡ done result → (length result ≤ room) × (status_text status ≡ result)
  status_whole result e = let (fits, made) = (status_given result).0 e in (rw (← made) fits, made)
