-- When a batch line is refused, and when it is built. Assumes nothing.
-- "Building: 1 over all records, lowest index first; 7; 5 for .. script; then argument by argument, 6 before 5; then 2; then 4."
use Rattle.std.specs.Prelude.{ℕ, ◌+◌, ◌≤◌, ◌<◌, ◌≡◌, ◌↔◌, Bool, true, false, length}
use Rattle.std.proofs.Math.Path.{refl}
use mathlib.Core.List.{List, [], ◌∷◌}
use Rattle.rules.specs.Choice.{any}
use Rattle.rules.specs.Unit.{is_nul}
use Rattle.rules.specs.Outcome.{Outcome, done, refused}
use Rattle.rules.specs.Record.{Argument, argument_fault, arguments_of}
use Rattle.rules.specs.Building.{batch_limit, script_of, batch_line, is_no_script, batch_finding, batch_command_line}
use Rattle.laws.specs.Fault.{Sound, FirstWrong}
use Rattle.laws.specs.Finding.{batch_finds}
use Rattle.laws.specs.Order.{◌and◌, given, unnumbered, Step, test, most, search_all, only, accepted, refused_test, refused_most, refused_search}
use Rattle.promises.specs.Records.{SoundRecords, FirstWrongRecord, records_step}

module _ (force : Bool) (script records text : List ℕ) (room : ℕ) where
  -- what building comes to
  abbrev built : Outcome (List ℕ)
  built = batch_command_line force script records text room

  -- the arguments
  abbrev args : List Argument
  args = arguments_of text records

  -- the whole line
  abbrev whole : List ℕ
  whole = batch_line force (script_of script) args

  -- nothing is wrong with the records, the script has no quote and no backslash at its end, and it holds no NUL save a final one
  abbrev SoundScript : Type 0 → Type 0
  SoundScript X = SoundRecords text records and (is_no_script script ≡ false) and (any is_nul (script_of script) ≡ false) and X

  -- ---- the steps of the order

  -- 1 over all records
  abbrev one : Step
  one = records_step text records

  -- 7 for the script
  abbrev seven : Step
  seven = test 7 (is_no_script script)

  -- 5 for the script
  abbrev five : Step
  five = test 5 (any is_nul (script_of script))

  -- 6 and 5 argument by argument
  abbrev six : Step
  six = search_all (6 ∷ 5 ∷ []) batch_finding batch_finds args

  -- 2 for the whole line
  abbrev two : Step
  two = most 2 batch_limit (length whole)

  -- 4 for the whole line
  abbrev four : Step
  four = most 4 room (length whole)

  -- ---- exactly when

  -- only 7, 5, 2 and 4 are given at place 0, only 1, 6 and 5 at a record's place
  pub batch_only : (number place : ℕ) → built ≡ refused number place → given (7 ∷ 5 ∷ 2 ∷ 4 ∷ []) (1 ∷ 6 ∷ 5 ∷ []) number place ≡ true
  unfolding batch_command_line argument_fault
  batch_only number place e = only whole (one ∷ seven ∷ five ∷ six ∷ two ∷ four ∷ []) number place e

  -- 1 at place i + 1: record i is the first at fault
  pub batch_record : (i : ℕ) → (built ≡ refused 1 (i + 1)) ↔ FirstWrongRecord text records i
  unfolding batch_command_line argument_fault
  batch_record i = refused_search whole 1 i [] _ _ (seven ∷ five ∷ six ∷ two ∷ four ∷ []) refl refl

  -- 7: the script contains a quote, or its last unit as lent is a backslash
  pub batch_script : (built ≡ refused 7 0) ↔ (SoundRecords text records and (is_no_script script ≡ true))
  unfolding batch_command_line argument_fault
  batch_script = refused_test whole 7 (one ∷ []) _ (five ∷ six ∷ two ∷ four ∷ []) refl refl

  -- 5 at place 0: a NUL in the script after one final NUL is dropped
  pub batch_script_nul : (built ≡ refused 5 0)
      ↔ (SoundRecords text records and (is_no_script script ≡ false) and (any is_nul (script_of script) ≡ true))
  unfolding batch_command_line argument_fault
  batch_script_nul = refused_test whole 5 (one ∷ seven ∷ []) _ (six ∷ two ∷ four ∷ []) refl refl

  -- 6 at place i + 1: argument i is the first at fault, and it is a regular one with CR or LF
  pub batch_argument_break : (i : ℕ) → (built ≡ refused 6 (i + 1)) ↔ SoundScript (FirstWrong batch_finding 6 i args)
  unfolding batch_command_line argument_fault
  batch_argument_break i = refused_search whole 6 i (one ∷ seven ∷ five ∷ []) _ _ (two ∷ four ∷ []) refl refl

  -- 5 at place i + 1: argument i is the first at fault, and it has a NUL and is not refused by 6
  pub batch_argument_nul : (i : ℕ) → (built ≡ refused 5 (i + 1)) ↔ SoundScript (FirstWrong batch_finding 5 i args)
  unfolding batch_command_line argument_fault
  batch_argument_nul i = refused_search whole 5 i (one ∷ seven ∷ five ∷ []) _ _ (two ∷ four ∷ []) refl refl

  -- 2: the line has more units than the limit
  pub batch_length : (built ≡ refused 2 0) ↔ SoundScript (Sound batch_finding args and (batch_limit < length whole))
  unfolding batch_command_line argument_fault
  batch_length = refused_most whole 2 (one ∷ seven ∷ five ∷ six ∷ []) _ _ (four ∷ []) refl refl

  -- 4: the output has fewer units than the line
  pub batch_room : (built ≡ refused 4 0) ↔ SoundScript (Sound batch_finding args and (length whole ≤ batch_limit) and (room < length whole))
  unfolding batch_command_line argument_fault
  batch_room = refused_most whole 4 (one ∷ seven ∷ five ∷ six ∷ two ∷ []) _ _ [] refl refl

  -- the line is built where nothing of this applies
  pub batch_built : (result : List ℕ) → (built ≡ done result)
      ↔ SoundScript (Sound batch_finding args and (length whole ≤ batch_limit) and (length whole ≤ room) and (whole ≡ result))
  unfolding batch_command_line argument_fault
  batch_built result = accepted whole (one ∷ seven ∷ five ∷ six ∷ two ∷ four ∷ []) result

  -- no refusal has the number 0
  pub batch_numbered : (place : ℕ) → ¬ (built ≡ refused 0 place)
  batch_numbered place e = unnumbered (7 ∷ 5 ∷ 2 ∷ 4 ∷ []) (1 ∷ 6 ∷ 5 ∷ []) place refl refl (batch_only 0 place e)

  -- what is built is the whole, and the output has room for it
  pub batch_whole : (result : List ℕ) → built ≡ done result → (length result ≤ room) × (whole ≡ result)
  batch_whole result e = let (_, (_, (_, (_, (_, (fits, made)))))) = (batch_built result).0 e in (rw (← made) fits, made)
