-- Small examples that pin what the marked ones leave open: each order of refusals, places, the lent memory afterwards. Assumes nothing.
use Rattle.std.specs.Prelude.{ℕ, ◌≡◌, refl, true, false, List, [], ◌∷◌, ◌++◌, map, length, replicate, pos, neg_ℤ}
use Prim.Native.String.{String}
use Rattle.rules.specs.Unit.{units, class_of}
use Rattle.rules.specs.Outcome.{Outcome, done, refused, filled}
use Rattle.rules.specs.Record.{argument_records, flat_of, wholes, Entry}
use Rattle.rules.specs.Quoting.{form}
use Rattle.rules.specs.Batch.{batch_form, needs_batch_quotes}
use Rattle.rules.specs.Reading.{arguments, reading, argument_part}
use Rattle.rules.specs.Building.{command_line, batch_command_line, batch_front}
use Rattle.rules.specs.Block.{environment_block}
use Rattle.rules.specs.BlockReading.{block_reading, units_used}
use Rattle.rules.specs.Status.{status_text, status_front, status_outcome, signed_code}
use Rattle.rules.specs.Suffix.{has_batch_suffix}
use Rattle.rules.specs.Answer.{outcome_texts, outcome_spans, outcome_entry_spans}
use Rattle.rules.specs.Example.{Example, sequence, sequences, written, read, listed, truths, numbers, ◌gives◌, computed, stated}

-- ---- reading

-- a line is read as these arguments
abbrev reads : String → List String → Example
reads line args = sequences (arguments (units line)) gives sequences (map units args)

-- an executable name and lent units are read, with this much room and so many numbers in the table
abbrev comes : List ℕ → List ℕ → ℕ → ℕ → Outcome (List (List ℕ)) → Example
comes executable lent room table o = read (reading executable lent room table) gives read o

-- the executable name as it is: blanks, a quote and a NUL with it
abbrev odd_name : List ℕ
odd_name = 97 ∷ 32 ∷ 34 ∷ 0 ∷ 98 ∷ []

-- reading: rules, the line's end, the executable name, places 3, room 4 and their order
abbrev readings : List Example
readings =
    reads "\"a b\"c d" ("a bc" ∷ "d" ∷ [])
    ∷ reads "exe \"\" " ("exe" ∷ "" ∷ [])
    ∷ reads "exe \"\" \"\"" ("exe" ∷ "" ∷ "" ∷ [])
    ∷ reads "exe \"a\"\\\"b" ("exe" ∷ "a\"b" ∷ [])
    ∷ reads "exe \"\\\\\"\"" ("exe" ∷ "\\\"" ∷ [])
    ∷ reads "a\\\"b c\" d" ("a\\b c" ∷ "d" ∷ [])
    ∷ reads "\"a b c" ("a b c" ∷ [])
    ∷ reads " \t " ("" ∷ [])
    ∷ reads "\"" ("" ∷ [])
    ∷ reads "e \"a\"\"b\" c" ("e" ∷ "a\"b" ∷ "c" ∷ [])
    ∷ reads "e a\\\\" ("e" ∷ "a\\\\" ∷ [])
    ∷ reads "e \\ \\" ("e" ∷ "\\" ∷ "\\" ∷ [])
    ∷ reads "e \"\\\" x" ("e" ∷ "\" x" ∷ [])
    ∷ reads "e\t \ta\"\"b\t" ("e" ∷ "ab" ∷ [])
    ∷ reads "e \"\"\"\"\"" ("e" ∷ "\"\"" ∷ [])
    ∷ sequences (arguments (101 ∷ 11 ∷ 32 ∷ 97 ∷ 10 ∷ 98 ∷ 13 ∷ 99 ∷ [])) gives sequences ((101 ∷ 11 ∷ []) ∷ (97 ∷ 10 ∷ 98 ∷ 13 ∷ 99 ∷ []) ∷ [])
    ∷ sequences (arguments (55296 ∷ 32 ∷ 56320 ∷ 55296 ∷ [])) gives sequences ((55296 ∷ []) ∷ (56320 ∷ 55296 ∷ []) ∷ [])
    ∷ comes (units "x") (units "e a" ++ 0 ∷ units " b") 2 4 (done (units "e" ∷ units "a" ∷ []))
    ∷ comes odd_name (0 ∷ units "e a") 5 2 (done (odd_name ∷ []))
    ∷ comes odd_name (0 ∷ units "e a") 4 2 (refused 4 0)
    ∷ comes [] [] 0 2 (done ([] ∷ []))
    ∷ comes [] [] 0 1 (refused 3 0)
    ∷ comes [] (units "e a") 9 3 (refused 3 0)
    ∷ comes [] (units "e a") 0 1 (refused 3 0)
    ∷ comes [] (units "e a") 1 4 (refused 4 0)
    ∷ comes [] (units "e a") 2 5 (done (units "e" ∷ units "a" ∷ []))
    ∷ sequence (filled (1 ∷ 2 ∷ 3 ∷ []) (outcome_texts (reading [] (units "e a") 3 5))) gives sequence (101 ∷ 97 ∷ 3 ∷ [])
    ∷ sequence (filled (7 ∷ 7 ∷ 7 ∷ 7 ∷ 9 ∷ []) (outcome_spans (reading [] (units "e a") 3 5))) gives sequence (0 ∷ 1 ∷ 1 ∷ 1 ∷ 9 ∷ [])
    ∷ sequence (filled (7 ∷ 7 ∷ 7 ∷ []) (outcome_spans (reading [] (units "e a") 3 3))) gives sequence (7 ∷ 7 ∷ 7 ∷ [])
    ∷ sequence (argument_part (units "abc") (1 ∷ 2 ∷ 3 ∷ 0 ∷ []) 0) gives sequence (units "bc")
    ∷ sequence (argument_part (units "abc") (1 ∷ 3 ∷ 0 ∷ 1 ∷ []) 0) gives sequence []
    ∷ sequence (argument_part (units "abc") (1 ∷ 3 ∷ 0 ∷ 1 ∷ []) 1) gives sequence (units "a")
    ∷ sequence (argument_part (units "abc") (0 ∷ 3 ∷ 0 ∷ []) 1) gives sequence []
    ∷ sequence (argument_part (units "abc") (0 ∷ 3 ∷ []) 18446744073709551615) gives sequence []
    ∷ sequence (argument_part (units "abc") (4294967295 ∷ 4294967295 ∷ []) 0) gives sequence []
    ∷ []

-- ---- ordinary lines

-- a program, records and their text come to this, with this much room and quotes not forced
abbrev builds : List ℕ → List ℕ → List ℕ → ℕ → Outcome (List ℕ) → Example
builds program records text room o = written (command_line false program records text room) gives written o

-- an ordinary form, quotes not forced
abbrev forms : String → String → Example
forms arg whole = sequence (form false (units arg)) gives sequence (units whole)

-- ordinary lines: 1 and its place, 5 and its order, room 4, raw arguments, forms
abbrev buildings : List Example
buildings =
    builds [] [] [] 2 (done (34 ∷ 34 ∷ []))
    ∷ builds [] [] [] 1 (refused 4 0)
    ∷ builds (units "p") (0 ∷ 0 ∷ 1 ∷ 0 ∷ 0 ∷ []) (units "a") 99 (refused 1 2)
    ∷ builds (0 ∷ []) (0 ∷ []) [] 0 (refused 1 1)
    ∷ builds [] (2 ∷ 0 ∷ 0 ∷ 0 ∷ 5 ∷ 5 ∷ []) [] 99 (refused 1 1)
    ∷ builds (units "p") (0 ∷ 1 ∷ 0 ∷ []) (units "a") 99 (done (units "\"p\" \"\""))
    ∷ builds (units "p") (0 ∷ 2 ∷ 0 ∷ []) (units "a") 99 (refused 1 1)
    ∷ builds (units "p") (0 ∷ 4294967295 ∷ 2 ∷ []) (units "a") 99 (refused 1 1)
    ∷ builds (0 ∷ []) (0 ∷ 0 ∷ 0 ∷ 1 ∷ 3 ∷ 1 ∷ []) (units "abc") 99 (refused 1 2)
    ∷ builds (112 ∷ 0 ∷ []) (0 ∷ 0 ∷ 1 ∷ []) (0 ∷ []) 99 (refused 5 0)
    ∷ builds (112 ∷ []) (0 ∷ 1 ∷ 1 ∷ 1 ∷ 0 ∷ 1 ∷ []) (0 ∷ 97 ∷ []) 0 (refused 5 2)
    ∷ builds (112 ∷ []) (0 ∷ 0 ∷ 2 ∷ 0 ∷ 1 ∷ 2 ∷ []) (97 ∷ 98 ∷ 99 ∷ 0 ∷ []) 9 (done (units "\"p\" ab bc"))
    ∷ builds (112 ∷ []) (0 ∷ 0 ∷ 1 ∷ []) (10 ∷ []) 99 (done (34 ∷ 112 ∷ 34 ∷ 32 ∷ 10 ∷ []))
    ∷ written (command_line true (112 ∷ []) (1 ∷ 0 ∷ 3 ∷ 1 ∷ 0 ∷ 0 ∷ []) (units "\" \\") 99) gives written (done (units "\"p\" \" \\ "))
    ∷ builds (units "a\"b") [] [] 99 (done (units "\"a\"b\""))
    ∷ sequence (filled (7 ∷ 8 ∷ 9 ∷ []) (command_line false [] [] [] 3)) gives sequence (34 ∷ 34 ∷ 9 ∷ [])
    ∷ sequence (filled (7 ∷ []) (command_line false [] [] [] 1)) gives sequence (7 ∷ [])
    ∷ sequence (flat_of (wholes (argument_records (0 ∷ 1 ∷ 2 ∷ 1 ∷ 4 ∷ 5 ∷ 1 ∷ 7 ∷ [])))) gives sequence (0 ∷ 1 ∷ 2 ∷ 1 ∷ 4 ∷ 5 ∷ [])
    ∷ numbers (pos (length (form true (units "\"\"\"\""))) ∷ []) gives numbers (pos 10 ∷ [])
    ∷ forms "a\\\\b" "a\\\\b"
    ∷ forms "a\\\\\"b" "a\\\\\\\\\\\"b"
    ∷ forms " \\" "\" \\\\\""
    ∷ forms "\"" "\\\""
    ∷ forms "a\tb" "\"a\tb\""
    ∷ []

-- ---- batch lines

-- a script, records and their text come to this, with this much room and quotes not forced
abbrev scripts : List ℕ → List ℕ → List ℕ → ℕ → Outcome (List ℕ) → Example
scripts script records text room o = written (batch_command_line false script records text room) gives written o

-- behind the 28 units of the front
abbrev fronted : List ℕ → Outcome (List ℕ)
fronted rest = done (batch_front ++ rest)

-- a form of a batch line, quotes not forced
abbrev batch_forms : String → String → Example
batch_forms arg whole = sequence (batch_form false (units arg)) gives sequence (units whole)

-- batch lines: the final NUL, 7 before 5, 6 before 5 argument by argument, raw arguments, forms
abbrev batches : List Example
batches =
    numbers (pos (length batch_front) ∷ []) gives numbers (pos 28 ∷ [])
    ∷ scripts (units "a.bat") (0 ∷ 0 ∷ 3 ∷ []) (units "x y") 41 (refused 4 0)
    ∷ scripts (units "a.bat") (0 ∷ 0 ∷ 3 ∷ []) (units "x y") 42 (fronted (units "\"a.bat\" \"x y\"\""))
    ∷ scripts (0 ∷ []) [] [] 31 (fronted (units "\"\"\""))
    ∷ scripts (0 ∷ []) [] [] 30 (refused 4 0)
    ∷ scripts [] [] [] 31 (fronted (units "\"\"\""))
    ∷ scripts (97 ∷ 0 ∷ 0 ∷ []) [] [] 99 (refused 5 0)
    ∷ scripts (97 ∷ 0 ∷ 98 ∷ []) [] [] 99 (refused 5 0)
    ∷ scripts (97 ∷ 92 ∷ 0 ∷ []) [] [] 99 (fronted (units "\"a\\\"\""))
    ∷ scripts (0 ∷ 97 ∷ 92 ∷ []) [] [] 99 (refused 7 0)
    ∷ scripts (34 ∷ 0 ∷ 97 ∷ []) [] [] 99 (refused 7 0)
    ∷ scripts (34 ∷ []) (0 ∷ []) [] 99 (refused 1 1)
    ∷ scripts (97 ∷ 0 ∷ 98 ∷ []) (0 ∷ 0 ∷ 1 ∷ []) (13 ∷ []) 99 (refused 5 0)
    ∷ scripts (97 ∷ []) (0 ∷ 0 ∷ 2 ∷ []) (0 ∷ 13 ∷ []) 99 (refused 6 1)
    ∷ scripts (97 ∷ []) (0 ∷ 0 ∷ 1 ∷ 0 ∷ 1 ∷ 1 ∷ []) (0 ∷ 13 ∷ []) 99 (refused 5 1)
    ∷ scripts (97 ∷ []) (1 ∷ 1 ∷ 1 ∷ 0 ∷ 0 ∷ 1 ∷ []) (10 ∷ 97 ∷ []) 0 (refused 6 2)
    ∷ scripts (97 ∷ []) (1 ∷ 0 ∷ 2 ∷ []) (10 ∷ 13 ∷ []) 99 (fronted (units "\"a\" " ++ 10 ∷ 13 ∷ 34 ∷ []))
    ∷ scripts (97 ∷ []) (1 ∷ 0 ∷ 2 ∷ []) (10 ∷ 0 ∷ []) 99 (refused 5 1)
    ∷ written (batch_command_line true (97 ∷ []) (1 ∷ 0 ∷ 1 ∷ []) (units "%") 99) gives written (fronted (units "\"a\" %\""))
    ∷ batch_forms "\\\\%" "\"\\\\%%cd:~,%\""
    ∷ batch_forms "\\\\\"" "\"\\\\\\\\\"\"\""
    ∷ batch_forms "" "\"\""
    ∷ sequence (batch_form true (units "a")) gives sequence (units "\"a\"")
    ∷ sequence (batch_form false (97 ∷ 92 ∷ 98 ∷ 160 ∷ 65535 ∷ [])) gives sequence (97 ∷ 92 ∷ 98 ∷ 160 ∷ 65535 ∷ [])
    ∷ truths (map (λ x. needs_batch_quotes false (x ∷ [])) (31 ∷ 32 ∷ 91 ∷ 96 ∷ 123 ∷ 126 ∷ 127 ∷ 128 ∷ 159 ∷ [])) gives truths (replicate 9 true)
    ∷ truths (map (λ x. needs_batch_quotes false (x ∷ [])) (48 ∷ 57 ∷ 65 ∷ 90 ∷ 97 ∷ 122 ∷ 160 ∷ 255 ∷ 256 ∷ 65535 ∷ [])) gives truths (replicate 10 false)
    ∷ truths (needs_batch_quotes false (units "#$*+-./:?@\\_.") ∷ needs_batch_quotes false (units "a\\") ∷ []) gives truths (false ∷ true ∷ [])
    ∷ numbers (pos (length (batch_form false (units "%%%"))) ∷ []) gives numbers (pos 26 ∷ [])
    ∷ []

-- ---- blocks, statuses, suffixes, classes

-- records and their text come to this block, with this much room
abbrev blocks : List ℕ → List ℕ → ℕ → Outcome (List ℕ) → Example
blocks records text room o = written (environment_block records text room) gives written o

-- blocks: no entries, cut records, 1 over all before 5, key before value, `=` in a key
abbrev environments : List Example
environments =
    blocks [] [] 2 (done (0 ∷ 0 ∷ []))
    ∷ blocks [] [] 1 (refused 4 0)
    ∷ blocks (0 ∷ 0 ∷ 0 ∷ 0 ∷ []) [] 3 (done (61 ∷ 0 ∷ 0 ∷ []))
    ∷ blocks (0 ∷ 1 ∷ 0 ∷ 0 ∷ 0 ∷ 0 ∷ 0 ∷ []) (0 ∷ []) 99 (refused 1 2)
    ∷ blocks (0 ∷ 0 ∷ []) [] 99 (refused 1 1)
    ∷ blocks (0 ∷ []) [] 99 (refused 1 1)
    ∷ blocks (0 ∷ 1 ∷ 1 ∷ 1 ∷ []) (65 ∷ []) 99 (refused 1 1)
    ∷ blocks (1 ∷ 1 ∷ 0 ∷ 1 ∷ []) (65 ∷ []) 99 (refused 1 1)
    ∷ blocks (1 ∷ 1 ∷ 0 ∷ 1 ∷ 0 ∷ 1 ∷ 0 ∷ 0 ∷ []) (0 ∷ 65 ∷ []) 0 (refused 5 1)
    ∷ blocks (1 ∷ 1 ∷ 1 ∷ 1 ∷ 0 ∷ 1 ∷ 0 ∷ 0 ∷ []) (0 ∷ 65 ∷ []) 0 (refused 5 2)
    ∷ blocks (0 ∷ 3 ∷ 3 ∷ 1 ∷ []) (units "=C:x") 99 (done (units "=C:=x" ++ 0 ∷ 0 ∷ []))
    ∷ blocks (1 ∷ 1 ∷ 0 ∷ 1 ∷ 0 ∷ 1 ∷ 1 ∷ 1 ∷ []) (units "ab") 9 (done (units "b=a" ++ 0 ∷ units "a=b" ++ 0 ∷ 0 ∷ []))
    ∷ sequence (filled (7 ∷ 8 ∷ []) (environment_block (9 ∷ []) [] 2)) gives sequence (7 ∷ 8 ∷ [])
    ∷ []

-- an entry
abbrev entry : String → String → Entry
entry key value = record { key = units key; value = units value }

-- a slice, with so many numbers in the table, is read as this
abbrev lists : List ℕ → ℕ → Outcome (List Entry) → Example
lists lent table o = listed (block_reading lent table) gives listed o

-- `A=b`, `C=d`, each with its NUL
abbrev two_entries : List ℕ
two_entries = units "A=b" ++ 0 ∷ units "C=d" ++ 0 ∷ []

-- blocks read: no entries, where an entry splits, each cause of 8 and its place, 8 before 3, table and units used
abbrev listings : List Example
listings =
    lists (0 ∷ 0 ∷ []) 0 (done [])
    ∷ lists [] 0 (refused 8 1)
    ∷ lists (0 ∷ []) 0 (refused 8 1)
    ∷ lists (0 ∷ 65 ∷ []) 0 (refused 8 1)
    ∷ lists (0 ∷ 65 ∷ 61 ∷ 0 ∷ 0 ∷ []) 9 (refused 8 1)
    ∷ lists (0 ∷ 0 ∷ 65 ∷ []) 0 (done [])
    ∷ lists (units "=C:=x" ++ 0 ∷ 0 ∷ []) 4 (done (entry "=C:" "x" ∷ []))
    ∷ lists (units "==" ++ 0 ∷ 0 ∷ []) 4 (done (entry "=" "" ∷ []))
    ∷ lists (units "==x" ++ 0 ∷ 0 ∷ []) 4 (done (entry "=" "x" ∷ []))
    ∷ lists (units "A==x=" ++ 0 ∷ 0 ∷ []) 5 (done (entry "A" "=x=" ∷ []))
    ∷ lists (units "=" ++ 0 ∷ 0 ∷ []) 4 (refused 8 1)
    ∷ lists (units "=x" ++ 0 ∷ 0 ∷ []) 4 (refused 8 1)
    ∷ lists (units "A" ++ 0 ∷ 0 ∷ []) 4 (refused 8 1)
    ∷ lists (units "A=") 4 (refused 8 1)
    ∷ lists (units "A=" ++ 0 ∷ []) 4 (refused 8 2)
    ∷ lists (units "A=" ++ 0 ∷ units "B") 8 (refused 8 2)
    ∷ lists (units "A=" ++ 0 ∷ units "B" ++ 0 ∷ []) 0 (refused 8 2)
    ∷ lists (two_entries ++ 0 ∷ units "rest") 8 (done (entry "A" "b" ∷ entry "C" "d" ∷ []))
    ∷ lists (two_entries ++ 0 ∷ []) 7 (refused 3 0)
    ∷ lists two_entries 7 (refused 8 3)
    ∷ sequence (filled (replicate 9 7) (outcome_entry_spans (block_reading (units "=C:=x" ++ 0 ∷ units "K=" ++ 0 ∷ 0 ∷ 5 ∷ []) 9)))
    gives sequence (0 ∷ 3 ∷ 4 ∷ 1 ∷ 6 ∷ 1 ∷ 8 ∷ 0 ∷ 7 ∷ [])
    ∷ sequence (filled (7 ∷ 7 ∷ []) (outcome_entry_spans (block_reading (units "A=" ++ 0 ∷ 0 ∷ []) 2))) gives sequence (7 ∷ 7 ∷ [])
    ∷ sequence (units_used [] ∷ units_used (entry "=C:" "x" ∷ entry "K" "" ∷ []) ∷ []) gives sequence (2 ∷ 10 ∷ [])
    ∷ []

-- a child status has this text
abbrev status_reads : ℕ → String → Example
status_reads status text = sequence (status_text status) gives sequence (units text)

-- statuses: both ends of both halves, texts and signed codes, and the room
abbrev statuses : List Example
statuses =
    numbers (pos (length status_front) ∷ []) gives numbers (pos 11 ∷ [])
    ∷ status_reads 0 "exit code: 0"
    ∷ status_reads 9 "exit code: 9"
    ∷ status_reads 10 "exit code: 10"
    ∷ status_reads 2147483647 "exit code: 2147483647"
    ∷ status_reads 2147483648 "exit code: 0x80000000"
    ∷ status_reads 4294967295 "exit code: 0xffffffff"
    ∷ numbers (map signed_code (0 ∷ 2147483647 ∷ 2147483648 ∷ 4294967295 ∷ []))
    gives numbers (pos 0 ∷ pos 2147483647 ∷ neg_ℤ (pos 2147483648) ∷ neg_ℤ (pos 1) ∷ [])
    ∷ written (status_outcome 0 11) gives written (refused 4 0)
    ∷ written (status_outcome 0 12) gives written (done (units "exit code: 0"))
    ∷ []

-- paths with a batch suffix, in letters of either case, and paths without
abbrev suffixes : List Example
suffixes =
    truths (map has_batch_suffix (map units (".bat" ∷ "a.bat" ∷ "a.BAT" ∷ "a.BaT" ∷ ".cmd" ∷ "a.CMD" ∷ "a.cMd" ∷ "a.exe.bat" ∷ []))) gives truths (replicate 8 true)
    ∷ truths (map has_batch_suffix (map units ("" ∷ "bat" ∷ "abat" ∷ "a.bat " ∷ "a.cat" ∷ "a.bmd" ∷ "a.bad" ∷ "a.cmt" ∷ "a.bat.exe" ∷ []))) gives truths (replicate 9 false)
    ∷ truths (has_batch_suffix (46 ∷ 98 ∷ 97 ∷ 116 ∷ 0 ∷ []) ∷ []) gives truths (false ∷ [])
    ∷ []

-- classes at the ends of each range
abbrev classes : List Example
classes =
    sequence (map class_of (0 ∷ 10 ∷ 13 ∷ 32 ∷ 9 ∷ 34 ∷ 92 ∷ 37 ∷ [])) gives sequence (1 ∷ 2 ∷ 2 ∷ 3 ∷ 3 ∷ 4 ∷ 5 ∷ 6 ∷ [])
    ∷ sequence (map class_of (1 ∷ 11 ∷ 33 ∷ 96 ∷ 127 ∷ 128 ∷ 159 ∷ [])) gives sequence (replicate 7 7)
    ∷ sequence (map class_of (35 ∷ 95 ∷ 160 ∷ 255 ∷ 256 ∷ 65535 ∷ [])) gives sequence (replicate 6 0)
    ∷ []

-- all of them
unfoldable pub pinned : List Example
unfolding units batch_front status_front
pinned = readings ++ buildings ++ batches ++ environments ++ listings ++ statuses ++ suffixes ++ classes

-- each computes to what the document says
pub pinned_hold : map computed pinned ≡ map stated pinned
unfolding pinned units argument_records wholes flat_of arguments reading argument_part form command_line batch_form needs_batch_quotes batch_front batch_command_line
    environment_block block_reading status_front status_text status_outcome signed_code has_batch_suffix class_of
pinned_hold = refl
