-- One argument's part after reading, and the round trip from the builder's contract over the reader's to each argument. Assumes nothing.
use Rattle.std.specs.Prelude.{ℕ, ◌≤◌, ◌<◌, ◌≡◌, Bool, false, List, [], ◌∷◌, length, get_or, take, Result, Ok}
use Rattle.std.proofs.Common.{arith, ◌∙◌}
use Rattle.rules.specs.declared.Refusal.{Refusal}
use Rattle.rules.specs.declared.Arguments.{Arguments}
use Rattle.rules.specs.Choice.{any}
use Rattle.rules.specs.Unit.{is_quote}
use Rattle.rules.specs.Outcome.{done}
use Rattle.rules.specs.Record.{arguments_of}
use Rattle.rules.specs.Building.{command_line}
use Rattle.rules.specs.Reading.{joined, places_of, reading, argument_part}
use Rattle.rules.specs.Answer.{wrote, Answered, Read}
use Rattle.laws.specs.LineRead.{is_raw, contents}
use Rattle.laws.specs.Answer.{parsed_one}
use Rattle.laws.specs.Span.{part_given, part_stale, part_missing}
use Rattle.promises.specs.Reading.{read_given}
use Rattle.promises.specs.RoundTrip.{BuiltOf, round_trip, round_trip_always}
use Rattle.promises.specs.Answers.{line_answer}

-- ---- after a reading that gave these arguments

module _ (executable lent text spans : List ℕ) {r : Result Arguments Refusal} {text' spans' : List ℕ} {args : List (List ℕ)}
    (given : reading executable lent (length text) (length spans) ≡ done args)
    (a : Read (reading executable lent (length text) (length spans)) r text text' spans spans') where
  fits : length args ≤ places_of (length spans)
  fits = let (_, (h, (_, made))) = (read_given executable lent (length text) (length spans) args).0 given in rw (← made) h

  -- the part of each index is that argument
  pub part_at : (i : ℕ) → i < length args → argument_part text' spans' i ≡ get_or args i []
  part_at i h = rw (a.leaves, a.tabulates, given) (part_given text spans args fits i h)

  -- behind the arguments it is whatever span the table's old numbers name
  pub part_behind : (i : ℕ) → length args ≤ i → argument_part text' spans' i ≡ argument_part text' spans i
  part_behind i h = rw (a.tabulates, given) (part_stale text spans args fits text' i h)

  -- where the table has no more places it is empty
  pub part_empty : (i : ℕ) → places_of (length spans) ≤ i → argument_part text' spans' i ≡ []
  part_empty i h = part_behind i (omega (arith, fits)) ∙ part_missing text' spans i h

  -- the answer counts the arguments and their units
  pub answer_counts : r ≡ Ok (record { count = length args; units = length (joined args) })
  answer_counts = parsed_one r _ (a.says ∙ rw given)

-- ---- build, read, and take each argument

-- the reader's answer, and the part of each index, are those of the list
pub record ReadAs (r : Result Arguments Refusal) (text spans : List ℕ) (list : List (List ℕ)) : Type 0 where
  pub answer : r ≡ Ok (record { count = length list; units = length (joined list) })
  pub each : (i : ℕ) → i < length list → argument_part text spans i ≡ get_or list i []

module _ (force : Bool) (program records text : List ℕ) {n : ℕ} {out out' : List ℕ}
    (b : Answered (command_line force program records text (length out)) (wrote n) out out')
    (unquoted : any is_quote program ≡ false) (regular : any is_raw (arguments_of text records) ≡ false)
    (executable : List ℕ) {r : Result Arguments Refusal} {texts texts' spans spans' : List ℕ}
    (c : Read (reading executable (take n out') (length texts) (length spans)) r texts texts' spans spans') where
  -- the program and the units of each argument, in order
  abbrev list : List (List ℕ)
  list = program ∷ contents (arguments_of text records)

  line_written : BuiltOf force program records text (length out) (take n out')
  line_written =
      let w = line_answer force program records text b in
      record { built = w.made ∙ rw w.lies.front; unquoted = unquoted; regulars = regular }

  taken : reading executable (take n out') (length texts) (length spans) ≡ done list → ReadAs r texts' spans' list
  taken e =
      record {
        answer = answer_counts executable (take n out') texts spans e c;
        each = part_at executable (take n out') texts spans e c;
      }

  -- demand 3 over the contracts: what the builder wrote is read, with room for it, and each argument taken is that of the list
  pub full_trip : length (joined list) ≤ length texts → length list ≤ places_of (length spans) → ReadAs r texts' spans' list
  full_trip h g = taken (round_trip line_written executable (length texts) (length spans) h g)

  -- demand 3 over the contracts, with room that is always enough
  pub full_trip_always : 32767 ≤ length texts → 32768 ≤ length spans → ReadAs r texts' spans' list
  full_trip_always h g = taken (round_trip_always line_written executable (length texts) (length spans) h g)
