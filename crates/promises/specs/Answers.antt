-- What an answer tells: a refusal changes nothing, a result fills the front and keeps the rest. Assumes nothing.
use Rattle.std.specs.Prelude.{ℕ, ◌≡◌, Bool, List, length, Result, Ok, Err}
use Rattle.rules.specs.declared.Refusal.{Refusal}
use Rattle.rules.specs.declared.Arguments.{Arguments}
use Rattle.rules.specs.declared.Entries.{Entries}
use Rattle.rules.specs.Outcome.{Outcome, refused}
use Rattle.rules.specs.Record.{Entry}
use Rattle.rules.specs.Answer.{Said, refusal, wrote, refusal_said, parsed_said, listed_said, Answered, Read, Listing}
use Rattle.rules.specs.Building.{command_line, batch_command_line}
use Rattle.rules.specs.Block.{environment_block}
use Rattle.rules.specs.Status.{status_outcome}
use Rattle.rules.specs.Reading.{reading}
use Rattle.rules.specs.BlockReading.{block_reading}
use Rattle.laws.specs.Told.{Refusing, told_refused, told_unread, told_unlisted, Writing, Giving, Naming, told_written, told_given, told_listed}
use Rattle.promises.specs.Line.{line_numbered, line_whole}
use Rattle.promises.specs.BatchLine.{batch_numbered, batch_whole}
use Rattle.promises.specs.Block.{block_numbered, block_whole}
use Rattle.promises.specs.Status.{status_numbered, status_whole}
use Rattle.promises.specs.Reading.{read_numbered, read_whole}
use Rattle.promises.specs.BlockReading.{entries_numbered, entries_whole}

-- ---- refusals, whichever the entry point

-- where a writer's outcome is a refusal, the answer says its number and place with counts 0, and no lent unit changes
pub refusal_keeps : {number place : ℕ} {said : Said} {before after : List ℕ} → Answered (refused number place) said before after
    → (said ≡ refusal number place) × (after ≡ before)
refusal_keeps a = (a.says, a.leaves)

-- where the reader's outcome is a refusal, the answer says it with counts 0, and no lent unit and no table place changes
pub read_refusal_keeps : {number place : ℕ} {r : Result Arguments Refusal} {text text' spans spans' : List ℕ} → Read (refused number place) r text text' spans spans'
    → (parsed_said r ≡ refusal number place) × (text' ≡ text) × (spans' ≡ spans)
read_refusal_keeps a = (a.says, a.leaves, a.tabulates)

-- where the block reader's outcome is a refusal, the answer says it with counts 0, and no table place changes
pub entries_refusal_keeps : {number place : ℕ} {r : Result Entries Refusal} {spans spans' : List ℕ} → Listing (refused number place) r spans spans'
    → (listed_said r ≡ refusal number place) × (spans' ≡ spans)
entries_refusal_keeps a = (a.says, a.tabulates)

-- a writer that answers with a refusal was refused by that number at that place, and no lent unit has changed
pub refused_answer : {o : Outcome (List ℕ)} {q : Refusal} {before after : List ℕ} → Answered o (refusal_said q) before after
    → Refusing o q × (after ≡ before)
refused_answer {o} a = told_refused o a

-- a reader that answers so was refused likewise, and no lent unit and no table place has changed
pub read_refused_answer : {o : Outcome (List (List ℕ))} {q : Refusal} {text text' spans spans' : List ℕ}
    → Read o (Err q) text text' spans spans' → Refusing o q × (text' ≡ text) × (spans' ≡ spans)
read_refused_answer {o} a = told_unread o a

-- and so is a block reader
pub entries_refused_answer : {o : Outcome (List Entry)} {q : Refusal} {spans spans' : List ℕ} → Listing o (Err q) spans spans'
    → Refusing o q × (spans' ≡ spans)
entries_refused_answer {o} a = told_unlisted o a

-- ---- results

module _ {n : ℕ} {before after : List ℕ} where
  -- make_command_line: the answer counts the units of the line, which is the front of the output; the rest is kept
  pub line_answer : (force : Bool) (program records text : List ℕ) → let o = command_line force program records text (length before) in
      Answered o (wrote n) before after → Writing o n before after
  line_answer force program records text a =
      told_written _ (line_numbered force program records text (length before)) (λ result e. (line_whole force program records text (length before) result e).0) a

  -- make_bat_command_line: the answer counts the units of the batch line, which is the front of the output; the rest is kept
  pub batch_answer : (force : Bool) (script records text : List ℕ) → let o = batch_command_line force script records text (length before) in
      Answered o (wrote n) before after → Writing o n before after
  batch_answer force script records text a =
      told_written _ (batch_numbered force script records text (length before)) (λ result e. (batch_whole force script records text (length before) result e).0) a

  -- make_envp: the answer counts the units of the block, which is the front of the output; the rest is kept
  pub block_answer : (records text : List ℕ) → let o = environment_block records text (length before) in
      Answered o (wrote n) before after → Writing o n before after
  block_answer records text a =
      told_written _ (block_numbered records text (length before)) (λ result e. (block_whole records text (length before) result e).0) a

  -- status_text: the answer counts the units of the text, which is the front of the output; the rest is kept
  pub status_answer : (status : ℕ) → let o = status_outcome status (length before) in Answered o (wrote n) before after → Writing o n before after
  status_answer status a =
      told_written _ (status_numbered status (length before)) (λ result e. (status_whole status (length before) result e).0) a

-- parse_lp_cmd_line: the answer counts arguments and units; texts and spans are the fronts of output and table, and the rests are kept
pub parse_answer : (executable lent : List ℕ) {count units : ℕ} {text text' spans spans' : List ℕ} →
    let o = reading executable lent (length text) (length spans) in
    Read o (Ok (record { count = count; units = units })) text text' spans spans' → Giving o count units text text' spans spans'
parse_answer executable lent {text = text} {spans = spans} a =
    told_given _
    (read_numbered executable lent (length text) (length spans))
    (λ args e. let (fits, places, _) = read_whole executable lent (length text) (length spans) args e in (fits, places))
    a

-- read_envp: the answer counts entries and the units used; the spans are the front of the table, and the rest is kept
pub entries_answer : (lent : List ℕ) {count units : ℕ} {spans spans' : List ℕ} → let o = block_reading lent (length spans) in
    Listing o (Ok (record { count = count; units = units })) spans spans' → Naming o count units spans spans'
entries_answer lent {spans = spans} a =
    told_listed _ (entries_numbered lent (length spans)) (λ entries e. (entries_whole lent (length spans) entries e).0) a
