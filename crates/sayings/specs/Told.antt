-- What is answered, from what an entry point said. Assumes nothing.
use Rattle.std.specs.Prelude.{ℕ, ◌*◌, min, ◌≡◌, Bool, false, List, [], ◌∷◌, eqb, length}
use Rattle.std.proofs.lemmas.List.Edits.{sets}
use Rattle.rules.specs.Choice.{pick}
use Rattle.rules.specs.Outcome.{Outcome, done, refused, filled}
use Rattle.rules.specs.Record.{Entry}
use Rattle.rules.specs.Answer.{Said, Answered, entries_said, outcome_entry_spans}
use Rattle.rules.specs.Cache.{Served, missed, hit, held, stored}
use Rattle.replies.specs.declared.answers.Answer.{Answer}
use Rattle.replies.specs.declared.answers.Manner.{Manner}
use Rattle.replies.specs.declared.answers.Word.{Word}

-- a word and so many of two numbers, and the texts of a manner that so many numbers of the span table name
abbrev pub answer : Word → ℕ → ℕ → ℕ → Manner → ℕ → Answer
answer word count first second manner spans =
    record {
      word = word;
      count = count;
      first = first;
      second = second;
      manner = manner;
      spans = spans;
      from = 0;
      to = 0;
      negative = false;
    }

-- a word and numbers, and texts of their own behind them
abbrev pub brief : Word → ℕ → ℕ → ℕ → ℕ → Answer
brief word count first second spans = answer word count first second Manner.Text spans

-- `refused NUMBER PLACE`, with texts behind it
abbrev pub refused_told : Said → ℕ → Answer
refused_told said spans = brief Word.Refused 2 said.number said.place spans

-- No refusal has the number 0, which says that there is none.
abbrev pub or_refused : Said → ℕ → Answer → Answer
or_refused said spans answer = pick (eqb said.number 0) answer (refused_told said spans)

-- the two numbers of the span table that name so many units from a start on
abbrev pub span_of : ℕ → ℕ → List ℕ
span_of start units = min start 4294967295 ∷ min units 4294967295 ∷ []

-- `ok TEXT`
unfoldable pub text_told : Said → Answer
text_told said = or_refused said 0 (brief Word.Ok 0 0 0 2)

-- where TEXT stands: in front of the output
unfoldable pub text_span : Said → List ℕ
text_span said = pick (eqb said.number 0) (span_of 0 said.units) []

-- `ok UNITS OUT`, or `refused NUMBER PLACE OUT`
unfoldable pub lent_told : Said → Answer
lent_told said = or_refused said 2 (brief Word.Ok 1 said.units 0 2)

-- `ok COUNT A0 A1 ..`, by a span table of so many places
unfoldable pub texts_told : ℕ → Said → Answer
texts_told places said = or_refused said 0 (brief Word.Ok 1 said.arguments 0 (min (said.arguments * 2) places))

-- `ok COUNT UNITS TEXT`, or `refused NUMBER PLACE TEXT`, where so many numbers of the span table name the text, or none
unfoldable pub counts_told : ℕ → Said → Answer
counts_told spans said = or_refused said spans (brief Word.Ok 2 said.arguments said.units spans)

-- `ok USED KEY:VALUE ..`, by a span table of so many places: four for each entry
unfoldable pub entries_told : ℕ → Said → Answer
entries_told places said = or_refused said 0 (answer Word.Ok 1 said.units 0 Manner.Key (min (said.arguments * 4) places))

-- `hit LINE`, `miss`, `stored LINE` or `held LINE`
abbrev pub served_told : Outcome Served → Answer
served_told (done missed) = brief Word.Miss 0 0 0 0
served_told (done (hit start units)) = brief Word.Hit 0 0 0 2
served_told (done (held start units)) = brief Word.Held 0 0 0 2
served_told (done (stored start units)) = brief Word.Stored 0 0 0 2
served_told (refused number place) = brief Word.Refused 2 number place 0

-- where LINE stands in the store's units
abbrev pub served_span : Outcome Served → List ℕ
served_span (done missed) = []
served_span (done (hit start units)) = span_of start units
served_span (done (held start units)) = span_of start units
served_span (done (stored start units)) = span_of start units
served_span (refused number place) = []

-- the same answer with the numbers from one place of the table up to another
abbrev pub numbered : Answer → ℕ → ℕ → Bool → Answer
numbered a from to negative = record { word = a.word; count = a.count; first = a.first; second = a.second; manner = a.manner; spans = a.spans; from = from; to = to; negative = negative }

-- ---- contracts

-- what is answered is shown of what is said of the outcome, and the output holds what the outcome leaves in it
pub record Tells (o : Outcome (List ℕ)) (shows : Said → Answer) (r : Answer) (before after : List ℕ) : Type 0 where
  pub said : Said
  pub answered : Answered o said before after
  pub shown : r ≡ shows said

-- what is answered is shown of what the outcome of reading a block says; the table names its keys and values, and the output begins with the block
pub record Lists (o : Outcome (List Entry)) (block : List ℕ) (r : Answer) (spans spans' out out' : List ℕ) : Type 0 where
  pub shown : r ≡ entries_told (length spans) (entries_said o)
  pub tabulates : spans' ≡ filled spans (outcome_entry_spans o)
  pub shows : out' ≡ sets out 0 block

-- what is answered is shown of what a call of the cache came to, and the table's first text is the line
pub record Serves (o : Outcome Served) (r : Answer) (spans spans' : List ℕ) : Type 0 where
  pub shown : r ≡ served_told o
  pub names : spans' ≡ sets spans 0 (served_span o)
