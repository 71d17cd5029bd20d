-- Which record is the first at fault, as the statements on refusals say it. Assumes nothing.
use Rattle.std.specs.Prelude.{ℕ, List, [], ◌∷◌}
use Rattle.rules.specs.Record.{judged, argument_finding, argument_records, entry_finding, entry_records}
use Rattle.laws.specs.Fault.{Sound, FirstWrong}
use Rattle.laws.specs.Finding.{argument_finds}
use Rattle.laws.specs.Order.{Step, search_all}

-- nothing is wrong with any argument record: none is cut, each has a kind, and none reaches past the text
abbrev pub SoundRecords : List ℕ → List ℕ → Type 0
SoundRecords text records = Sound (judged (argument_finding text)) (argument_records records)

-- record i is the first that is cut, has no kind or reaches past the text
abbrev pub FirstWrongRecord : List ℕ → List ℕ → ℕ → Type 0
FirstWrongRecord text records i = FirstWrong (judged (argument_finding text)) 1 i (argument_records records)

-- the step of an order that looks for such a record
abbrev pub records_step : List ℕ → List ℕ → Step
records_step text records = search_all (1 ∷ []) (judged (argument_finding text)) (argument_finds text) (argument_records records)

-- nothing is wrong with any entry record: none is cut, and no key and no value reaches past the text
abbrev pub SoundEntries : List ℕ → List ℕ → Type 0
SoundEntries text records = Sound (judged (entry_finding text)) (entry_records records)

-- record i is the first that is cut, or whose key or value reaches past the text
abbrev pub FirstWrongEntry : List ℕ → List ℕ → ℕ → Type 0
FirstWrongEntry text records i = FirstWrong (judged (entry_finding text)) 1 i (entry_records records)
