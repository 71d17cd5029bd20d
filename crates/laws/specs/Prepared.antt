-- What the builder makes of what is lent for a line: with room enough its outcome hangs on the key alone, and the room decides last. Assumes nothing.
use Rattle.std.specs.Prelude.{ℕ, ◌≤◌, ◌<◌, ◌≡◌, Bool, List, [], ◌∷◌, eqb, ltb, length}
use Rattle.std.proofs.Common.{arith, ltb-true, ltb-false, sym, ◌∙◌}
use Rattle.std.proofs.Math.Path.{refl, ap}
use Rattle.std.proofs.Math.Bool.{true, false}
use Rattle.rules.specs.Choice.{any, is_empty}
use Rattle.rules.specs.Unit.{is_nul}
use Rattle.rules.specs.declared.Refusal.{Refusal}
use Rattle.rules.specs.Outcome.{Outcome, done, refused, refuse, Fault, faultless, fault, first_fault, unless, over, filled}
use Rattle.rules.specs.Record.{Argument, judged, argument_finding, argument_records, argument_fault, arguments_of}
use Rattle.rules.specs.Building.{line_limit, nul_finding, command_line}
use Rattle.rules.specs.Answer.{refusal, wrote, refusal_said, Answered}
use Rattle.rules.specs.Key.{Launch, launch, key_of, prepared, launch_line}
use Rattle.rules.specs.Cache.{CacheEntry, cache_entry}
use Rattle.rules.specs.Store.{Prepared}
use Rattle.laws.specs.Fault.{all_sound}
use Rattle.laws.specs.Finding.{argument_finds, nul_finds}
use Rattle.laws.specs.Nul.{line_some}
use Rattle.laws.specs.Told.{Refusing, told_refused, told_written}
use Rattle.laws.specs.Order.{Step, test, most, search_all, onto, ungiven, only, accepted}

-- 4 where there is less room
abbrev roomed : ℕ → Outcome (List ℕ) → Outcome (List ℕ)
roomed room (done whole) = refuse 4 (ltb room (length whole)) (done whole)
roomed room (refused number place) = refused number place

-- what a line that was built tells
pub record BuiltLine (lent : Launch) (whole : List ℕ) : Type 0 where
  pub sound : argument_fault lent.text lent.records ≡ faultless
  pub made : launch_line (key_of lent) ≡ whole
  pub short : length whole ≤ line_limit
  pub some : 0 < length whole

-- so the line of the key is short
pub short_line : (lent : Launch) {whole : List ℕ} → BuiltLine lent whole → length (launch_line (key_of lent)) ≤ line_limit
short_line lent l = rw l.made l.short

-- a list that is not empty has elements
some_units : (xs : List ℕ) → is_empty xs ≡ false → 0 < length xs
some_units [] s = let z : ◌≡◌ {A = ℕ} 0 1 = cc in absurd (omega arith)
some_units (x ∷ xs) s = omega arith

module _ (lent : Launch) where
  -- the whole line
  abbrev whole : List ℕ
  whole = launch_line (key_of lent)

  -- the arguments
  abbrev args : List Argument
  args = arguments_of lent.text lent.records

  -- the fault of the records
  abbrev faults : Fault
  faults = argument_fault lent.text lent.records

  -- the line is too long
  abbrev long : Bool
  long = ltb line_limit (length whole)

  -- the builder's order save 4: 1 over all records, 5 for the program, 5 argument by argument, 2 for the whole line
  abbrev steps : List Step
  steps =
      search_all (1 ∷ []) (judged (argument_finding lent.text)) (argument_finds lent.text) (argument_records lent.records)
      ∷ test 5 (any is_nul lent.program)
      ∷ search_all (5 ∷ []) nul_finding nul_finds args
      ∷ most 2 line_limit (length whole)
      ∷ []

  -- with room enough 4 is never given, and what is built passes the others
  steps_are : prepared lent ≡ onto steps (done whole)
  unfolding command_line argument_fault
  steps_are = ap (λ o. unless faults (refuse 5 (any is_nul lent.program) (unless (first_fault nul_finding args) o))) (go long)
    where
      go : (d : Bool) → refuse 2 d (refuse 4 d (done whole)) ≡ refuse 2 d (done whole)
      go true = refl
      go false = refl

  -- whatever the room, building comes to what it comes to with room enough, and then to 4
  room_decides : (room : ℕ) → command_line lent.force lent.program lent.records lent.text room ≡ roomed room (prepared lent)
  unfolding command_line
  room_decides room = go faults (any is_nul lent.program) (first_fault nul_finding args) long
    where
      go : (w : Fault) (b : Bool) (v : Fault) (d : Bool) → unless w (refuse 5 b (unless v (refuse 2 d (refuse 4 (ltb room (length whole)) (done whole)))))
          ≡ roomed room (unless w (refuse 5 b (unless v (refuse 2 d (refuse 4 d (done whole))))))
      go (fault n p) b v d = refl
      go faultless true v d = refl
      go faultless false (fault n p) d = refl
      go faultless false faultless true = refl
      go faultless false faultless false = refl

  -- a line that was built
  pub lined : (made : List ℕ) → prepared lent ≡ done made → BuiltLine lent made
  unfolding argument_fault
  lined made e =
      let (sound, (_, (_, (short, same)))) = (accepted whole steps made).0 (sym steps_are ∙ e) in
      record {
        sound = (all_sound (judged (argument_finding lent.text)) (argument_records lent.records)).1 sound;
        made = same;
        short = rw (← same) short;
        some = rw (← same) (some_units whole (line_some lent.force lent.program args));
      }

  -- with room enough only 1, 5 and 2 are given
  pub never_given : (n : ℕ) → any (eqb n) (5 ∷ 2 ∷ []) ≡ false → any (eqb n) (1 ∷ 5 ∷ []) ≡ false
      → (number place : ℕ) → prepared lent ≡ refused number place → ¬ (number ≡ n)
  never_given n h g number place e s = ungiven n (5 ∷ 2 ∷ []) (1 ∷ 5 ∷ []) place h g (rw s at (only whole steps number place (sym steps_are ∙ e)))

  -- a fault of the records is the builder's refusal
  pub fault_first : (number place : ℕ) → argument_fault lent.text lent.records ≡ fault number place → prepared lent ≡ refused number place
  unfolding command_line
  fault_first number place e = rw e

-- ---- building into some room

-- a refusal of the builder: one that does not come of the room, or 4 for a line that does not fit
pub data Unbuilt (lent : Launch) (room : ℕ) (q : Refusal) : Type 0 where
  passes : (number place : ℕ) → prepared lent ≡ refused number place → ¬ (number ≡ 4) → refusal_said q ≡ refusal number place → Unbuilt lent room q
  narrow : (whole : List ℕ) → prepared lent ≡ done whole → room < length whole → refusal_said q ≡ refusal 4 0 → Unbuilt lent room q

-- a line that was built lies over the room
pub record BuiltInto (lent : Launch) (n : ℕ) (before after : List ℕ) : Type 0 where
  pub whole : List ℕ
  pub made : prepared lent ≡ done whole
  pub counts : length whole ≡ n
  pub fits : n ≤ length before
  pub lies : after ≡ over before whole

module _ (lent : Launch) (before after : List ℕ) where
  -- what building into the room comes to
  abbrev pub built_here : Outcome (List ℕ)
  built_here = command_line lent.force lent.program lent.records lent.text (length before)

  -- the builder refused: nothing has changed, and why
  pub unbuilt : {q : Refusal} → Answered built_here (refusal_said q) before after → Unbuilt lent (length before) q × (after ≡ before)
  unbuilt {q} a = let (r, same) = told_refused built_here a in (go (prepared lent) refl r, same)
    where
      tested : (whole : List ℕ) (b : Bool) {number place : ℕ} → refuse 4 b (done whole) ≡ refused number place → (b ≡ true) × (number ≡ 4) × (place ≡ 0)
      tested whole true e = (refl, cc, cc)
      tested whole false e = let z : ◌≡◌ {A = ℕ} 0 1 = cc in absurd (omega arith)

      go : (o : Outcome (List ℕ)) → prepared lent ≡ o → Refusing built_here q → Unbuilt lent (length before) q
      go (done whole) e r =
          let f : refuse 4 (ltb (length before) (length whole)) (done whole) ≡ refused r.number r.place = sym (room_decides lent (length before) ∙ rw e) ∙ r.decided in
          let (b, n, p) = tested whole (ltb (length before) (length whole)) f in
          narrow whole e (ltb-true (length before) (length whole) b) (rw (n, p) at r.said)
      go (refused number place) e r =
          let d : built_here ≡ refused number place = room_decides lent (length before) ∙ rw e in
          let n : r.number ≡ number = cc in
          let p : r.place ≡ place = cc in
          passes number place e (never_given lent 4 refl refl number place e) (rw (n, p) at r.said)

  -- no refusal has the number 0
  no_zero : (o : Outcome (List ℕ)) → prepared lent ≡ o → (place : ℕ) → ¬ (roomed (length before) o ≡ refused 0 place)
  no_zero (refused number place') p place e = never_given lent 0 refl refl number place' p cc
  no_zero (done whole) p place e = go (ltb (length before) (length whole)) e
    where
      go : (b : Bool) → ¬ (refuse 4 b (done whole) ≡ refused 0 place)
      go true e = let z : ◌≡◌ {A = ℕ} 4 0 = cc in omega arith
      go false e = let z : ◌≡◌ {A = ℕ} 0 1 = cc in omega arith

  -- a result that has room
  room_made : (o : Outcome (List ℕ)) {whole : List ℕ} → roomed (length before) o ≡ done whole → (o ≡ done whole) × (length whole ≤ length before)
  room_made (refused number place) e = let z : ◌≡◌ {A = ℕ} 0 1 = cc in absurd (omega arith)
  room_made (done result) {whole} e = go (ltb (length before) (length result)) refl e
    where
      go : (b : Bool) → ltb (length before) (length result) ≡ b → refuse 4 b (done result) ≡ done whole → (done result ≡ done whole) × (length whole ≤ length before)
      go true t e = let z : ◌≡◌ {A = ℕ} 0 1 = cc in absurd (omega arith)
      go false t e =
          let s : result ≡ whole = cc in
          (e, rw (← s) (ltb-false (length before) (length result) t))

  -- the builder wrote a line
  pub built_into : {n : ℕ} → Answered built_here (wrote n) before after → BuiltInto lent n before after
  built_into {n} a =
      let d = sym (room_decides lent (length before)) in
      let w = told_written built_here (λ place e. no_zero (prepared lent) refl place (d ∙ e)) (λ result e. (room_made (prepared lent) (d ∙ e)).1) a in
      let (p, f) = room_made (prepared lent) (d ∙ w.made) in
      record {
        whole = w.result;
        made = p;
        counts = w.lies.units;
        fits = rw (← w.lies.units) f;
        lies = a.leaves ∙ ap (filled before) w.made;
      }

-- ---- what is held

-- with sound records, building hangs on the key alone
same_outcome : (a b : Launch) → argument_fault a.text a.records ≡ faultless → argument_fault b.text b.records ≡ faultless
    → a.force ≡ b.force → a.program ≡ b.program → arguments_of a.text a.records ≡ arguments_of b.text b.records → prepared a ≡ prepared b
unfolding command_line
same_outcome a b s t f p e = rw (s, t, f, p, e)

-- "A key whose line the builder refuses is never held": what an entry was prepared of is built again, wherever its texts stand
pub built_again : (lent : Launch) (e : CacheEntry) → argument_fault lent.text lent.records ≡ faultless → e.key ≡ key_of lent → Prepared e
    → prepared lent ≡ done e.line
built_again lent e s k p =
    let from = launch e.key.force e.key.program p.records p.text in
    let l = lined from e.line p.built in
    same_outcome lent from s l.sound (rw k) (rw k) (rw (p.named, k)) ∙ p.built

-- what was built is prepared
pub is_prepared : (fingerprint : ℕ) (lent : Launch) (made : List ℕ) → prepared lent ≡ done made → Prepared (cache_entry fingerprint (key_of lent))
is_prepared fingerprint lent made e =
    record { records = lent.records; text = lent.text; named = refl; built = e ∙ ap done (sym (lined lent made e).made) }

-- a prepared entry has the line of its key
pub entry_line : (e : CacheEntry) → Prepared e → e.line ≡ launch_line e.key
entry_line e p =
    let from = launch e.key.force e.key.program p.records p.text in
    sym (lined from e.line p.built).made ∙ rw p.named
