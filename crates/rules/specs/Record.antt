-- Flat lists of records that name parts of a lent text. Assumes nothing.
use Rattle.std.specs.Prelude.{ℕ, ◌+◌, Bool, List, [], ◌∷◌, map, ltb, eqb, length, take, drop}
use Rattle.rules.specs.declared.Arg.{Arg}
use Rattle.rules.specs.Choice.{either, flip}
use Rattle.rules.specs.Outcome.{Finding, sound, wrong, wrong_if, Fault, fault_from, first_fault}

-- ---- parts of a text

-- the part of a text from start on, as long as size
abbrev pub part : List ℕ → ℕ → ℕ → List ℕ
part text start size = take size (drop start text)

-- "its start plus length exceeds the lent text's"
abbrev pub exceeds : List ℕ → ℕ → ℕ → Bool
exceeds text start size = ltb (length text) (start + size)

-- ---- records in a flat list

-- what stands in a lent list: a whole record or entry, or a cut one where the list ends inside it
pub data Lent (A : Type 0) : Type 0 where
  whole : A → Lent A
  cut : Lent A

-- the whole ones
unfoldable pub wholes : {A : Type 0} → List (Lent A) → List A
wholes [] = []
wholes (whole a ∷ more) = a ∷ wholes more
wholes (cut ∷ more) = wholes more

-- a cut record is refusal 1, "or a flat list ends inside a record"; a whole one is judged
abbrev pub judged : {A : Type 0} → (A → Finding) → Lent A → Finding
judged find (whole a) = find a
judged find cut = wrong 1

-- ---- arguments: "kind (0 regular, 1 raw), start and length in a lent text"

-- kind 0
abbrev pub regular : ℕ
regular = 0

-- kind 1
abbrev pub raw : ℕ
raw = 1

-- the test on a kind's number that it is 0
abbrev pub is_regular : ℕ → Bool
is_regular kind = eqb kind regular

-- "a record's kind isn't 0 or 1"
abbrev pub is_no_kind : ℕ → Bool
is_no_kind kind = flip (either (is_regular kind) (eqb kind raw))

-- argument records are three numbers each: kind, start, length
unfoldable pub argument_records : List ℕ → List (Lent Arg)
argument_records [] = []
argument_records (kind ∷ []) = cut ∷ []
argument_records (kind ∷ start ∷ []) = cut ∷ []
argument_records (kind ∷ start ∷ len ∷ more) = whole (record { kind = kind; start = start; len = len }) ∷ argument_records more

-- the flat list of a list of records
unfoldable pub flat_of : List Arg → List ℕ
flat_of [] = []
flat_of (r ∷ more) = r.kind ∷ r.start ∷ r.len ∷ flat_of more

-- 1: "a record's kind isn't 0 or 1 .., or its start plus length exceeds the lent text's"
abbrev pub argument_finding : List ℕ → Arg → Finding
argument_finding text r = wrong_if 1 (either (is_no_kind r.kind) (exceeds text r.start r.len)) sound

-- "1 over all records, lowest index first"
unfoldable pub argument_fault : List ℕ → List ℕ → Fault
unfolding argument_records fault_from
argument_fault text records = first_fault (judged (argument_finding text)) (argument_records records)

-- an argument: its kind and the units that its record names
pub record Argument : Type 0 where
  pub kind : ℕ
  pub content : List ℕ

-- the argument that a record names
abbrev pub argument_of : List ℕ → Arg → Argument
argument_of text r = record { kind = r.kind; content = part text r.start r.len }

-- the arguments that the whole records of a flat list name
unfoldable pub arguments_of : List ℕ → List ℕ → List Argument
unfolding argument_records wholes
arguments_of text records = map (argument_of text) (wholes (argument_records records))

-- ---- environment entries: "flat records of key start and length, value start and length in a lent text"

-- four numbers
pub record EntryRecord : Type 0 where
  pub key_start : ℕ
  pub key_len : ℕ
  pub value_start : ℕ
  pub value_len : ℕ

-- entry records are four numbers each
unfoldable pub entry_records : List ℕ → List (Lent EntryRecord)
entry_records [] = []
entry_records (a ∷ []) = cut ∷ []
entry_records (a ∷ b ∷ []) = cut ∷ []
entry_records (a ∷ b ∷ c ∷ []) = cut ∷ []
entry_records (a ∷ b ∷ c ∷ d ∷ more) =
    whole (record { key_start = a; key_len = b; value_start = c; value_len = d }) ∷ entry_records more

-- 1: the key's or the value's start plus length exceeds the lent text's
abbrev pub entry_finding : List ℕ → EntryRecord → Finding
entry_finding text r = wrong_if 1 (either (exceeds text r.key_start r.key_len) (exceeds text r.value_start r.value_len)) sound

-- 1 over all entry records, lowest index first
unfoldable pub entry_fault : List ℕ → List ℕ → Fault
unfolding entry_records fault_from
entry_fault text records = first_fault (judged (entry_finding text)) (entry_records records)

-- an environment entry: the units of its key and of its value
pub record Entry : Type 0 where
  pub key : List ℕ
  pub value : List ℕ

-- the entry that a record names
abbrev pub entry_of : List ℕ → EntryRecord → Entry
entry_of text r = record { key = part text r.key_start r.key_len; value = part text r.value_start r.value_len }

-- the entries that the whole records of a flat list name, "in the caller's order"
unfoldable pub entries_of : List ℕ → List ℕ → List Entry
unfolding entry_records wholes
entries_of text records = map (entry_of text) (wholes (entry_records records))
