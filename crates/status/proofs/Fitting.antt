-- A text of two parts written whole, or refused for want of room. Assumes nothing.
use Rattle.std.specs.Prelude.{Ok}
use Prim.Native.Nat.{ℕ, ◌+◌, ◌-◌, ◌≤◌, ◌<◌, ◌^◌}
use native.Mathlib.Nat.{zero-add}
use native.Mathlib.Omega.{arith}
use mathlib.Core.Path.{◌≡◌, refl, ◌∙◌}
use mathlib.Core.List.{List, ◌++◌}
use lib.ListN.{length, take, drop, length-append}
use lib.Seq.{sets}
use borrow.Author.Tests.{lt-ltb, le-ltb}
use Rattle.laws.specs.Store.{sets_append, sets_front, part_is}
use Rattle.rules.specs.Answer.{Answered, Said, filled_said}
use Rattle.rules.specs.Unit.{units}
use Rattle.rules.specs.Status.{status_text, status_front, status_outcome}
use Rattle.status.specs.Text.{DigitsLaid, fitted}
use Rattle.status.proofs.Laying.{enough}

module _ (front digits before : List ℕ) where
  -- room enough
  pub room : (middle after : List ℕ) → length front + length digits ≤ length before → middle ≡ sets before 0 front → after ≡ sets middle (length front) digits
      → Answered (fitted (front ++ digits) (length before)) (filled_said (Ok (length front + length digits))) before after
  room middle after h p q =
      let l : length (front ++ digits) ≤ length before = rw length-append h in
      let s : after ≡ sets before 0 (front ++ digits) = rw (q, p, sets_append before 0 front digits, zero-add) in
      rw (le-ltb (length before) (length (front ++ digits)) l)
      (record { says = rw length-append; leaves = s ∙ sets_front before (front ++ digits) l })

outcome_is : (status room : ℕ) → status_outcome status room ≡ fitted (status_text status) room
unfolding status_outcome status_text
outcome_is status room = refl

-- what answers a text answers the status whose text it is
pub of_status : (status : ℕ) {whole before after : List ℕ} {said : Said} → status_text status ≡ whole → Answered (fitted whole (length before)) said before after
    → Answered (status_outcome status (length before)) said before after
of_status status e h = rw (outcome_is, e) h

-- ---- the two texts

module _ (status : ℕ) (at : ℕ) (lent places : List ℕ) where
  -- below the middle: decimal
  pub decimal_text : status < 2147483648 → DigitsLaid 10 status at lent places → status_text status ≡ units "exit code: " ++ take (10 - at) (drop at places)
  unfolding status_text status_front units
  decimal_text h l =
      let e : take (10 - at) (drop at places) ≡ drop at places = rw l.ten at (part_is at places) in
      rw (lt-ltb status 2147483648 h, e, l.holds)

  -- from the middle on: hexadecimal
  pub hexadecimal_text : 2147483648 ≤ status → status < 2 ^ 32 → DigitsLaid 16 status at lent places → status_text status ≡ units "exit code: 0x" ++ take (10 - at) (drop at places)
  unfolding status_text status_front units
  hexadecimal_text h f l =
      let e : take (10 - at) (drop at places) ≡ drop at places = rw l.ten at (part_is at places) in
      rw (le-ltb status 2147483648 h, e, l.holds, enough 16 8 status (omega arith) (omega arith), enough 16 7 status (omega arith) (omega arith))
