-- Each limit's number, and that 2 is tested where the documents say: examples one unit within a limit and one past it, by computing. Assumes nothing.
use Rattle.std.specs.Prelude.{ℕ, ◌-◌, ◌≡◌, refl, false, List, [], ◌∷◌, ◌++◌, replicate}
use Rattle.rules.specs.Unit.{units}
use Rattle.rules.specs.Outcome.{Outcome, done, refused}
use Rattle.rules.specs.Record.{regular, raw, flat_of}
use Rattle.rules.specs.Reading.{reading}
use Rattle.rules.specs.Building.{command_line, batch_command_line}
use Rattle.rules.specs.Block.{environment_block}
use Rattle.rules.specs.BlockReading.{block_reading}

-- so many units `a`
abbrev pub many : ℕ → List ℕ
many n = replicate n 97

-- ---- what is read

-- of executable name and line, the one that is read counts: 32,767 units are refused by 3 for want of places, 32,768 by 2
pub reading_stops :
    (reading (many 32767) [] 0 0 ≡ refused 3 0)
    × (reading (many 32768) [] 0 0 ≡ refused 2 0)
    × (reading (many 32768) (101 ∷ []) 1 2 ≡ done ((101 ∷ []) ∷ []))
    × (reading (replicate 32768 0) (0 ∷ []) 0 0 ≡ refused 2 0)
    × (reading [] (many 32767 ++ 0 ∷ []) 0 0 ≡ refused 3 0)
    × (reading [] (many 32768) 0 0 ≡ refused 2 0)
unfolding reading
reading_stops = (refl, refl, refl, refl, refl, refl)

-- ---- blocks

-- a block that is built: 65,535 units are refused by 4 for want of room, 65,536 by 2
pub blocks_stop :
    (environment_block (0 ∷ 65532 ∷ 0 ∷ 0 ∷ []) (many 65532) 0 ≡ refused 4 0)
    × (environment_block (0 ∷ 65533 ∷ 0 ∷ 0 ∷ []) (many 65533) 0 ≡ refused 2 0)
unfolding environment_block
blocks_stop = (refl, refl)

-- a block that is read: 65,535 units are refused by 3 for want of places, or by 8, and 65,536 by 2
pub block_reading_stops :
    (block_reading (units "A=" ++ many 65531 ++ 0 ∷ 0 ∷ []) 3 ≡ refused 3 0)
    × (block_reading (many 65535) 0 ≡ refused 8 1)
    × (block_reading (many 65536) 0 ≡ refused 2 0)
unfolding units block_reading
block_reading_stops = (refl, refl, refl)

-- ---- built lines, whatever brings their last units

-- name, records, text and room come to this
abbrev pub Builder : Type 0
Builder = List ℕ → List ℕ → List ℕ → ℕ → Outcome (List ℕ)

-- a way to bring a line to so many units besides those round every name: what a builder then gives, with this much room
abbrev pub Way : Type 0
Way = Builder → ℕ → ℕ → Outcome (List ℕ)

-- a name and, behind fifteen raw arguments, these: the fifteen are one part of the text and take 30,015 units with their spaces
abbrev pub behind_fifteen : Builder → List ℕ → List ℕ → ℕ → Outcome (List ℕ)
unfolding flat_of
behind_fifteen build name records = build name (flat_of (replicate 15 (record { kind = raw; start = 0; len = 2000 })) ++ records) (many 2800)

-- the last units are the name's
abbrev pub by_name : Way
by_name build n = behind_fifteen build (many (n - 30015)) []

-- they are one argument's, of this kind, and its space
abbrev pub by_one : ℕ → Way
by_one kind build n = behind_fifteen build [] (kind ∷ 0 ∷ (n - 30016) ∷ [])

-- they are those of 1,000 arguments of one unit each, and their spaces; the name fills up what these leave
abbrev pub by_short : Way
unfolding flat_of
by_short build n = behind_fifteen build (many (n - 32015)) (flat_of (replicate 1000 (record { kind = regular; start = 0; len = 1 })))

-- they are those of two arguments that overlap, and their spaces
abbrev pub by_overlap : Way
by_overlap build n = behind_fifteen build [] (regular ∷ 0 ∷ 1500 ∷ regular ∷ 1 ∷ (n - 31517) ∷ [])

-- a line of 32,765 or 32,766 units lacks but a unit of room and is refused by 4; one of 32,767 has room and is refused by 2
abbrev pub Stops : (ℕ → ℕ → Outcome (List ℕ)) → Type 0
Stops line = (line 32765 32764 ≡ refused 4 0) × (line 32766 32765 ≡ refused 4 0) × (line 32767 32767 ≡ refused 2 0)

-- a builder's lines stop there in each way; so many of their units stand round every name
abbrev pub StopsEachWay : ℕ → Builder → Type 0
StopsEachWay round build =
    Stops (λ (n : ℕ). by_name build (n - round))
    × Stops (λ (n : ℕ). by_one regular build (n - round))
    × Stops (λ (n : ℕ). by_one raw build (n - round))
    × Stops (λ (n : ℕ). by_short build (n - round))
    × Stops (λ (n : ℕ). by_overlap build (n - round))

-- ordinary lines, with two quotes round the program
pub lines_stop : StopsEachWay 2 (command_line false)
unfolding flat_of command_line
lines_stop = ((refl, refl, refl), (refl, refl, refl), (refl, refl, refl), (refl, refl, refl), (refl, refl, refl))

-- batch lines, with 31 units round the script
pub batch_lines_stop : StopsEachWay 31 (batch_command_line false)
unfolding flat_of batch_command_line
batch_lines_stop = ((refl, refl, refl), (refl, refl, refl), (refl, refl, refl), (refl, refl, refl), (refl, refl, refl))

-- a script's final NUL is no unit of its line
pub final_nul_uncounted : behind_fifteen (batch_command_line false) (many (32766 - 31 - 30015) ++ 0 ∷ []) [] 32765 ≡ refused 4 0
unfolding flat_of batch_command_line
final_nul_uncounted = refl
