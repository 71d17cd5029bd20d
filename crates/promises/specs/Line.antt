-- When an ordinary line is refused, and when it is built. Assumes nothing.
-- "Building: 1 over all records, lowest index first; .. 5 for program ..; then argument by argument, .. 5; then 2; then 4."
use Rattle.std.specs.Prelude.{ℕ, ◌+◌, ◌≤◌, ◌<◌, ◌≡◌, ◌↔◌, Bool, true, false, length}
use Rattle.std.proofs.Math.Path.{refl}
use mathlib.Core.List.{List, [], ◌∷◌}
use Rattle.rules.specs.Choice.{any}
use Rattle.rules.specs.Unit.{is_nul}
use Rattle.rules.specs.Outcome.{Outcome, done, refused}
use Rattle.rules.specs.Record.{Argument, argument_fault, arguments_of}
use Rattle.rules.specs.Building.{line, line_limit, nul_finding, command_line}
use Rattle.laws.specs.Fault.{Sound, FirstWrong}
use Rattle.laws.specs.Finding.{nul_finds}
use Rattle.laws.specs.Order.{◌and◌, given, unnumbered, Step, test, most, search_all, only, accepted, refused_test, refused_most, refused_search}
use Rattle.promises.specs.Records.{SoundRecords, FirstWrongRecord, records_step}

module _ (force : Bool) (program records text : List ℕ) (room : ℕ) where
  -- what building comes to
  abbrev built : Outcome (List ℕ)
  built = command_line force program records text room

  -- the arguments
  abbrev args : List Argument
  args = arguments_of text records

  -- the whole line
  abbrev whole : List ℕ
  whole = line force program args

  -- ---- the steps of the order

  -- 1 over all records
  abbrev one : Step
  one = records_step text records

  -- 5 for the program
  abbrev five : Step
  five = test 5 (any is_nul program)

  -- 5 argument by argument
  abbrev nuls : Step
  nuls = search_all (5 ∷ []) nul_finding nul_finds args

  -- 2 for the whole line
  abbrev two : Step
  two = most 2 line_limit (length whole)

  -- 4 for the whole line
  abbrev four : Step
  four = most 4 room (length whole)

  -- ---- exactly when

  -- only 5, 2 and 4 are given at place 0, only 1 and 5 at a record's place
  pub line_only : (number place : ℕ) → built ≡ refused number place → given (5 ∷ 2 ∷ 4 ∷ []) (1 ∷ 5 ∷ []) number place ≡ true
  unfolding command_line argument_fault
  line_only number place e = only whole (one ∷ five ∷ nuls ∷ two ∷ four ∷ []) number place e

  -- 1 at place i + 1: record i is the first at fault
  pub line_record : (i : ℕ) → (built ≡ refused 1 (i + 1)) ↔ FirstWrongRecord text records i
  unfolding command_line argument_fault
  line_record i = refused_search whole 1 i [] _ _ (five ∷ nuls ∷ two ∷ four ∷ []) refl refl

  -- 5 at place 0: a NUL in the program
  pub line_program : (built ≡ refused 5 0) ↔ (SoundRecords text records and (any is_nul program ≡ true))
  unfolding command_line argument_fault
  line_program = refused_test whole 5 (one ∷ []) _ (nuls ∷ two ∷ four ∷ []) refl refl

  -- 5 at place i + 1: argument i is the first with a NUL
  pub line_argument : (i : ℕ) → (built ≡ refused 5 (i + 1))
      ↔ (SoundRecords text records and (any is_nul program ≡ false) and FirstWrong nul_finding 5 i args)
  unfolding command_line argument_fault
  line_argument i = refused_search whole 5 i (one ∷ five ∷ []) _ _ (two ∷ four ∷ []) refl refl

  -- 2: the line has more units than the limit
  pub line_length : (built ≡ refused 2 0)
      ↔ (SoundRecords text records and (any is_nul program ≡ false) and Sound nul_finding args and (line_limit < length whole))
  unfolding command_line argument_fault
  line_length = refused_most whole 2 (one ∷ five ∷ nuls ∷ []) _ _ (four ∷ []) refl refl

  -- 4: the output has fewer units than the line
  pub line_room : (built ≡ refused 4 0)
      ↔ (SoundRecords text records and (any is_nul program ≡ false) and Sound nul_finding args and (length whole ≤ line_limit) and (room < length whole))
  unfolding command_line argument_fault
  line_room = refused_most whole 4 (one ∷ five ∷ nuls ∷ two ∷ []) _ _ [] refl refl

  -- the line is built where nothing of this applies
  pub line_built : (result : List ℕ) → (built ≡ done result)
      ↔ (SoundRecords text records and (any is_nul program ≡ false) and Sound nul_finding args and (length whole ≤ line_limit) and (length whole ≤ room)
      and (whole ≡ result))
  unfolding command_line argument_fault
  line_built result = accepted whole (one ∷ five ∷ nuls ∷ two ∷ four ∷ []) result

  -- no refusal has the number 0
  pub line_numbered : (place : ℕ) → ¬ (built ≡ refused 0 place)
  line_numbered place e = unnumbered (5 ∷ 2 ∷ 4 ∷ []) (1 ∷ 5 ∷ []) place refl refl (line_only 0 place e)

  -- what is built is the whole, and the output has room for it
  pub line_whole : (result : List ℕ) → built ≡ done result → (length result ≤ room) × (whole ≡ result)
  line_whole result e = let (_, (_, (_, (_, (fits, made))))) = (line_built result).0 e in (rw (← made) fits, made)
