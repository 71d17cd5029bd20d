-- What the routines under the status text promise. Assumes nothing.
use Rattle.std.specs.Prelude.{ℕ, ◌-◌, ◌<◌, ◌≡◌, List, ltb, length, take, drop}
use Rattle.std.proofs.Common.{arith, sym, ap, ◌∙◌, length-drop, take-append-drop}
use Rattle.rules.specs.Outcome.{Outcome, done, refuse}
use Rattle.rules.specs.Status.{digits}

-- from `at` up to the end the ten places hold the digits of the number, at most ten of them; those before `at` are kept
pub record DigitsLaid (base number at : ℕ) (before after : List ℕ) : Type 0 where
  pub within : at < 10
  pub ten : length after ≡ 10
  pub keeps : take at after ≡ take at before
  pub holds : drop at after ≡ digits base 9 number

-- so both the place of the first digit and what the places hold are fixed
pub laid_once : {base number at at' : ℕ} {before after after' : List ℕ} → DigitsLaid base number at before after
    → DigitsLaid base number at' before after' → (at ≡ at') × (after ≡ after')
laid_once {base} {number} {at} {at'} {before} {after} {after'} l m =
    let size : length (drop at after) ≡ length after - at = length-drop at after in
    let size' : length (drop at' after') ≡ length after' - at' = length-drop at' after' in
    let digits_same : length (drop at after) ≡ length (drop at' after') = ap length (l.holds ∙ sym m.holds) in
    let e : at ≡ at' = omega (arith, l.within, m.within, l.ten, m.ten) in
    let front : take at after ≡ take at after' = l.keeps ∙ sym (rw (← e) at m.keeps) in
    let back : drop at after ≡ drop at after' = l.holds ∙ sym (rw (← e) at m.holds) in
    (e, sym (take-append-drop at after) ∙ rw (front, back, take-append-drop))

-- a whole text, or 4 where the output has fewer units
abbrev pub fitted : List ℕ → ℕ → Outcome (List ℕ)
fitted whole room = refuse 4 (ltb room (length whole)) (done whole)
