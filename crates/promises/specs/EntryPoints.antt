-- The readers, the line builders and the block builder, as worthless programs are judged: what can be lent, and what is merely copied. Assumes nothing.
use Rattle.std.specs.Prelude.{ℕ, ◌+◌, ◌<◌, ◌≡◌, Bool, false, List, [], ◌∷◌, ◌++◌, map, leb, length, Result}
use Rattle.rules.specs.declared.Refusal.{Refusal}
use Rattle.rules.specs.declared.Line.{Line}
use Rattle.rules.specs.declared.Arguments.{Arguments}
use Rattle.rules.specs.declared.Entries.{Entries}
use Rattle.rules.specs.Choice.{any}
use Rattle.rules.specs.Unit.{nul}
use Rattle.rules.specs.Outcome.{Outcome, done, over}
use Rattle.rules.specs.Record.{part, Argument, raw, arguments_of, Entry, entries_of}
use Rattle.rules.specs.Building.{line, command_line, script_of, batch_line, batch_command_line}
use Rattle.rules.specs.Block.{entry_units, block, environment_block}
use Rattle.rules.specs.Reading.{arguments_read, reading, argument_part}
use Rattle.rules.specs.BlockReading.{entries_read, entry_size, entry_spans, block_reading}
use Rattle.rules.specs.Answer.{Said, units_said, arguments_said, entries_said, built_said, filled_said, parsed_said, listed_said, Answered, Read, Listing}
use Rattle.laws.specs.Entry.{text_of}
use Rattle.promises.specs.Worthless.{EntryPoint}

-- ---- what can be lent

-- these numbers are units
abbrev pub AreUnits : List ℕ → Type 0
AreUnits xs = any (leb 65536) xs ≡ false

-- these numbers can stand in a record or in a span table
abbrev pub AreNumbers : List ℕ → Type 0
AreNumbers xs = any (leb 4294967296) xs ≡ false

-- to the reader: an executable name, the units of the line, the output, and the span table
pub record ToRead : Type 0 where
  pub executable : List ℕ
  pub lent : List ℕ
  pub text : List ℕ
  pub spans : List ℕ
  pub in_units : AreUnits (executable ++ lent ++ text)
  pub in_numbers : AreNumbers spans

-- to a line builder: whether quotes are forced, the program or script, argument records, their text, and the output
pub record ToBuild : Type 0 where
  pub force : Bool
  pub program : List ℕ
  pub records : List ℕ
  pub text : List ℕ
  pub out : List ℕ
  pub in_units : AreUnits (program ++ text ++ out)
  pub in_numbers : AreNumbers records

-- to the block builder: entry records, their text, and the output
pub record ToFill : Type 0 where
  pub records : List ℕ
  pub text : List ℕ
  pub out : List ℕ
  pub in_units : AreUnits (text ++ out)
  pub in_numbers : AreNumbers records

-- to the block reader: the units of the block, and the span table
pub record ToList : Type 0 where
  pub lent : List ℕ
  pub spans : List ℕ
  pub in_units : AreUnits lent
  pub in_numbers : AreNumbers spans

-- ---- the readers

-- a part of the lent units as it stands
abbrev pub IsPart : List ℕ → List ℕ → Type 0
IsPart lent xs = (start size : ℕ) × (xs ≡ part lent start size)

-- parse_lp_cmd_line; it merely copies where each argument behind the first is a part of the line as it stands
abbrev pub reader : EntryPoint
reader =
    record {
      Input = ToRead;
      Answer = Result Arguments Refusal;
      Memory = List ℕ × List ℕ;
      held = λ x. (x.text, x.spans);
      said = parsed_said;
      Promised = λ x r m. Read (reading x.executable x.lent (length x.text) (length x.spans)) r x.text m.0 x.spans m.1;
      counted = λ x. arguments_said (done (arguments_read x.executable x.lent));
      Copied = λ x m. (i : ℕ) → i + 1 < length (arguments_read x.executable x.lent) → IsPart x.lent (argument_part m.0 m.1 (i + 1));
    }

-- the spans of entries that are not split: each stands whole in its key
abbrev pub unsplit_spans : ℕ → List Entry → List ℕ
unsplit_spans start [] = []
unsplit_spans start (e ∷ more) = start ∷ length (text_of e) ∷ (start + length (text_of e)) ∷ 0 ∷ unsplit_spans (start + entry_size e) more

-- the spans of entries of which the first alone is split
abbrev pub rest_unsplit : List Entry → List ℕ
rest_unsplit [] = []
rest_unsplit (e ∷ more) = entry_spans (e ∷ []) ++ unsplit_spans (entry_size e) more

-- read_envp; it merely copies where it names each entry behind the first as it stands
abbrev pub block_reader : EntryPoint
block_reader =
    record {
      Input = ToList;
      Answer = Result Entries Refusal;
      Memory = List ℕ;
      held = λ x. x.spans;
      said = listed_said;
      Promised = λ x r spans'. Listing (block_reading x.lent (length x.spans)) r x.spans spans';
      counted = λ x. entries_said (done (entries_read x.lent));
      Copied = λ x spans'. spans' ≡ over x.spans (rest_unsplit (entries_read x.lent));
    }

-- ---- the builders

-- an entry point that writes units over one output: what it comes to, and its whole result, also where all behind the first argument is merely copied
pub record Writer : Type 1 where
  pub Input : Type 0
  pub Answer : Type 0
  pub said : Answer → Said
  pub out : Input → List ℕ
  pub outcome : Input → Outcome (List ℕ)
  pub whole : Input → List ℕ
  pub copied : Input → List ℕ

-- its contract, and what its programs are judged by
abbrev pub writing : Writer → EntryPoint
writing w =
    record {
      Input = w.Input;
      Answer = w.Answer;
      Memory = List ℕ;
      held = w.out;
      said = w.said;
      Promised = λ x r after. Answered (w.outcome x) (w.said r) (w.out x) after;
      counted = λ x. units_said (done (w.whole x));
      Copied = λ x after. after ≡ over (w.out x) (w.copied x);
    }

-- the arguments with all behind the first made raw: a raw one is copied
abbrev pub rest_raw : List Argument → List Argument
rest_raw [] = []
rest_raw (a ∷ more) = a ∷ map (λ b. record { kind = raw; content = b.content }) more

-- make_command_line
abbrev pub line_builder : Writer
line_builder =
    record {
      Input = ToBuild;
      Answer = Result Line Refusal;
      said = built_said;
      out = λ x. x.out;
      outcome = λ x. command_line x.force x.program x.records x.text (length x.out);
      whole = λ x. line x.force x.program (arguments_of x.text x.records);
      copied = λ x. line x.force x.program (rest_raw (arguments_of x.text x.records));
    }

-- make_bat_command_line
abbrev pub batch_builder : Writer
batch_builder =
    record {
      Input = ToBuild;
      Answer = Result Line Refusal;
      said = built_said;
      out = λ x. x.out;
      outcome = λ x. batch_command_line x.force x.program x.records x.text (length x.out);
      whole = λ x. batch_line x.force (script_of x.program) (arguments_of x.text x.records);
      copied = λ x. batch_line x.force (script_of x.program) (rest_raw (arguments_of x.text x.records));
    }

-- the keys and values of entries, with nothing between them
abbrev pub copied_entries : List Entry → List ℕ
copied_entries [] = []
copied_entries (e ∷ more) = e.key ++ e.value ++ copied_entries more

-- a block whose first entry is written rightly and whose other entries are copied
abbrev pub rest_copied : List Entry → List ℕ
rest_copied [] = block []
rest_copied (e ∷ more) = entry_units (e ∷ []) ++ copied_entries more ++ nul ∷ []

-- make_envp
abbrev pub block_builder : Writer
block_builder =
    record {
      Input = ToFill;
      Answer = Result ℕ Refusal;
      said = filled_said;
      out = λ x. x.out;
      outcome = λ x. environment_block x.records x.text (length x.out);
      whole = λ x. block (entries_of x.text x.records);
      copied = λ x. rest_copied (entries_of x.text x.records);
    }
