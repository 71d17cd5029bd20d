-- What an answer says in the document's numbers, and what an entry point promises of its answer and of the lent memory. Assumes nothing.
use Rattle.std.specs.Prelude.{ℕ, ◌≡◌, List, length, Result, Ok, Err}
use Rattle.rules.specs.declared.Refusal.{Refusal}
use Rattle.rules.specs.declared.Line.{Line}
use Rattle.rules.specs.declared.Arguments.{Arguments}
use Rattle.rules.specs.declared.Entries.{Entries}
use Rattle.rules.specs.Outcome.{Outcome, done, refused, filled}
use Rattle.rules.specs.Record.{Entry}
use Rattle.rules.specs.Reading.{joined, spans_of}
use Rattle.rules.specs.BlockReading.{units_used, entry_spans}

-- the refusal's number (0 where there is none), its place, and the counts of arguments (of a block's entries) and of units
pub record Said : Type 0 where
  pub number : ℕ
  pub place : ℕ
  pub arguments : ℕ
  pub units : ℕ

-- ---- what an outcome says

-- "A refusal carries the number and a place .. Its counts are 0"
abbrev pub refusal : ℕ → ℕ → Said
refusal number place = record { number = number; place = place; arguments = 0; units = 0 }

-- the count of units that were written
abbrev pub wrote : ℕ → Said
wrote units = record { number = 0; place = 0; arguments = 0; units = units }

-- "The answer gives the number of arguments and of text units."
abbrev pub gave : ℕ → ℕ → Said
gave arguments units = record { number = 0; place = 0; arguments = arguments; units = units }

-- the outcome of an entry point that writes units
abbrev pub units_said : Outcome (List ℕ) → Said
units_said (done result) = wrote (length result)
units_said (refused number place) = refusal number place

-- the outcome of reading
abbrev pub arguments_said : Outcome (List (List ℕ)) → Said
arguments_said (done args) = gave (length args) (length (joined args))
arguments_said (refused number place) = refusal number place

-- the outcome of reading a block: "the count used is reported"
abbrev pub entries_said : Outcome (List Entry) → Said
entries_said (done entries) = gave (length entries) (units_used entries)
entries_said (refused number place) = refusal number place

-- ---- what an answer says: the one place where the enums' cases get the document's numbers

-- the number of each refusal
abbrev pub refusal_number : Refusal → ℕ
refusal_number (Refusal.Record place) = 1
refusal_number Refusal.Length = 2
refusal_number Refusal.Places = 3
refusal_number Refusal.Room = 4
refusal_number (Refusal.Nul place) = 5
refusal_number (Refusal.LineBreak place) = 6
refusal_number Refusal.Script = 7
refusal_number (Refusal.Entry place) = 8

-- its place: that of a record or an entry, else 0
abbrev pub refusal_place : Refusal → ℕ
refusal_place (Refusal.Record place) = place
refusal_place Refusal.Length = 0
refusal_place Refusal.Places = 0
refusal_place Refusal.Room = 0
refusal_place (Refusal.Nul place) = place
refusal_place (Refusal.LineBreak place) = place
refusal_place Refusal.Script = 0
refusal_place (Refusal.Entry place) = place

-- a refusal says its number and its place
abbrev pub refusal_said : Refusal → Said
refusal_said r = refusal (refusal_number r) (refusal_place r)

-- what an entry point's answer says, by what its result does: a refusal says the same of all
abbrev pub answer_said : {T : Type 0} → (T → Said) → Result T Refusal → Said
answer_said says (Ok answer) = says answer
answer_said says (Err r) = refusal_said r

-- the answer of a builder of lines
abbrev pub built_said : Result Line Refusal → Said
built_said = answer_said (λ line. wrote line.units)

-- the answer of an entry point that merely writes units
abbrev pub filled_said : Result ℕ Refusal → Said
filled_said = answer_said wrote

-- the answer of the reader
abbrev pub parsed_said : Result Arguments Refusal → Said
parsed_said = answer_said (λ arguments. gave arguments.count arguments.units)

-- the answer of the block reader
abbrev pub listed_said : Result Entries Refusal → Said
listed_said = answer_said (λ entries. gave entries.count entries.units)

-- ---- contracts

-- what is said of an answer is what the outcome says, and the output holds afterwards what the outcome leaves in it
pub record Answered (o : Outcome (List ℕ)) (said : Said) (before after : List ℕ) : Type 0 where
  pub says : said ≡ units_said o
  pub leaves : after ≡ filled before o

-- the texts and the spans of an outcome of reading
abbrev pub outcome_texts : Outcome (List (List ℕ)) → Outcome (List ℕ)
outcome_texts (done args) = done (joined args)
outcome_texts (refused number place) = refused number place

-- the numbers that an outcome of reading puts into the span table
abbrev pub outcome_spans : Outcome (List (List ℕ)) → Outcome (List ℕ)
outcome_spans (done args) = done (spans_of args)
outcome_spans (refused number place) = refused number place

-- the answer says what the outcome says, and output and span table hold afterwards what the outcome leaves in them
pub record Read (o : Outcome (List (List ℕ))) (r : Result Arguments Refusal) (text text' spans spans' : List ℕ) : Type 0 where
  pub says : parsed_said r ≡ arguments_said o
  pub leaves : text' ≡ filled text (outcome_texts o)
  pub tabulates : spans' ≡ filled spans (outcome_spans o)

-- the numbers that an outcome of reading a block puts into the span table
abbrev pub outcome_entry_spans : Outcome (List Entry) → Outcome (List ℕ)
outcome_entry_spans (done entries) = done (entry_spans entries)
outcome_entry_spans (refused number place) = refused number place

-- the answer says what the outcome says, and the span table holds afterwards what the outcome leaves in it
pub record Listing (o : Outcome (List Entry)) (r : Result Entries Refusal) (spans spans' : List ℕ) : Type 0 where
  pub says : listed_said r ≡ entries_said o
  pub tabulates : spans' ≡ filled spans (outcome_entry_spans o)
