-- Why each hypothesis of the theorems is there: a smallest input outside it, where the two sides of the theorem part. Assumes nothing.
-- Smallest is by the number of records, then of lent units, then of lent room and places.
use Rattle.std.specs.Prelude.{ℕ, ◌+◌, ◌-◌, ◌≡◌, refl, true, false, List, [], ◌∷◌, ◌++◌, replicate, pos, neg_ℤ, ◌==◌}
use Rattle.std.proofs.Math.Option.{some}
use Rattle.rules.specs.Choice.{pick, any}
use Rattle.rules.specs.Unit.{units, within, nul, carriage_return, quote, equals}
use Rattle.rules.specs.Record.{regular, arguments_of, entries_of}
use Rattle.rules.specs.Batch.{batch_form}
use Rattle.rules.specs.Building.{line_limit, nul_finding, batch_limit, batch_front, command_line, batch_command_line}
use Rattle.rules.specs.Block.{environment_block}
use Rattle.rules.specs.Reading.{reading}
use Rattle.rules.specs.Status.{signed_code, status_outcome}
use Rattle.original.specs.Shims.{Ok, w_str_units, as_encoded_bytes, btree_map}
use Rattle.original.specs.AppendArg.{Regular}
use Rattle.original.specs.AppendBatArg.{append_bat_arg}
use Rattle.original.specs.MakeCommandLine.{make_command_line}
use Rattle.original.specs.MakeBatCommandLine.{Append, make_bat_command_line_by, make_bat_command_line}
use Rattle.original.specs.ParseLpCmdLine.{while_w, parse_lp_cmd_line}
use Rattle.original.specs.MakeEnvp.{cmp, make_envp}
use Rattle.original.specs.ExitStatus.{exit_code, exit_display}
use Rattle.original.specs.Domain.{Verdict, gives, refuses, rust_says, port_says, finding_says, in_domain, args_of}

-- what the Rust says, and what the port says
abbrev pub Sides : Type 0 → Type 0
Sides A = Verdict A × Verdict A

-- ---- inside: a result, 5, 6 and 7 are in the domain, 1 to 4 are not

-- of a line: a result, 5, 1, 2, 4; of a batch line: a result, 7, 6; of reading: a result, 3
pub in_and_out :
    in_domain (command_line false [] [] [] 2)
    ∷ in_domain (command_line false [] (0 ∷ 0 ∷ 1 ∷ []) (nul ∷ []) 0)
    ∷ in_domain (command_line false [] (0 ∷ []) [] 2)
    ∷ in_domain (command_line false (replicate line_limit 97) [] [] (line_limit + 2))
    ∷ in_domain (command_line false [] [] [] 1)
    ∷ in_domain (batch_command_line false [] [] [] 31)
    ∷ in_domain (batch_command_line false (quote ∷ []) [] [] 0)
    ∷ in_domain (batch_command_line false [] (0 ∷ 0 ∷ 1 ∷ []) (carriage_return ∷ []) 0)
    ∷ in_domain (reading [] [] 0 2)
    ∷ in_domain (reading [] [] 0 1)
    ∷ []
    ≡ true ∷ true ∷ false ∷ false ∷ false ∷ true ∷ true ∷ true ∷ true ∷ false ∷ []
unfolding line_limit command_line batch_command_line reading
in_and_out = refl

-- ---- `make_command_line`

-- the two sides of `make_command_line_same`, quotes not forced
abbrev pub line_sides : List ℕ → List ℕ → List ℕ → ℕ → Sides (List ℕ)
line_sides program records text room =
    (rust_says (make_command_line program (args_of (arguments_of text records)) false), port_says (command_line false program records text room))

-- a NUL in the program: the Rust's comment (process 861 - 862) promises an error for it, the code has no such test, the port has
pub nul_in_program : line_sides (nul ∷ []) [] [] 0 ≡ (gives (quote ∷ nul ∷ quote ∷ []), refuses 5)
unfolding make_command_line command_line
nul_in_program = refl

-- 1: a flat list that ends inside a record. The Rust has no records, and gets the whole ones.
pub line_record_cut : line_sides [] (0 ∷ []) [] 2 ≡ (gives (quote ∷ quote ∷ []), refuses 1)
unfolding make_command_line command_line
line_record_cut = refl

-- 2: a line of one unit past the limit, two of them its quotes
pub line_too_long :
    line_sides (replicate (line_limit - 1) 97) [] [] 0 ≡ (gives (quote ∷ replicate (line_limit - 1) 97 ++ quote ∷ []), refuses 2)
unfolding line_limit make_command_line command_line
line_too_long = refl

-- 4: no room
pub line_without_room : line_sides [] [] [] 0 ≡ (gives (quote ∷ quote ∷ []), refuses 4)
unfolding make_command_line command_line
line_without_room = refl

-- ---- `make_bat_command_line`

-- the two sides of `make_bat_command_line_same`, quotes not forced
abbrev pub batch_sides : List ℕ → List ℕ → List ℕ → ℕ → Sides (List ℕ)
batch_sides script records text room =
    (rust_says (make_bat_command_line script (args_of (arguments_of text records)) false), port_says (batch_command_line false script records text room))

-- the batch line of a script without arguments
abbrev pub only_script : List ℕ → List ℕ
only_script script = batch_front ++ quote ∷ script ++ quote ∷ quote ∷ []

-- a NUL in the script before its end
pub nul_in_script : batch_sides (nul ∷ nul ∷ []) [] [] 0 ≡ (gives (only_script (nul ∷ [])), refuses 5)
unfolding make_bat_command_line batch_command_line
nul_in_script = refl

-- 1: a flat list that ends inside a record
pub batch_record_cut : batch_sides [] (0 ∷ []) [] 31 ≡ (gives (only_script []), refuses 1)
unfolding make_bat_command_line batch_command_line
batch_record_cut = refl

-- 2: a batch line of one unit past the limit, 31 of them round the script
pub batch_too_long :
    batch_sides (replicate (batch_limit - 30) 97) [] [] 0 ≡ (gives (only_script (replicate (batch_limit - 30) 97)), refuses 2)
unfolding batch_limit make_bat_command_line batch_command_line
batch_too_long = refl

-- 4: no room
pub batch_without_room : batch_sides [] [] [] 0 ≡ (gives (only_script []), refuses 4)
unfolding make_bat_command_line batch_command_line
batch_without_room = refl

-- a call that appends nothing, which is not `append_bat_arg` on an argument without CR
abbrev pub append_nothing : Append
append_nothing cmd arg quote = Ok cmd

-- `carriage_return_unreached` asks that a call is `append_bat_arg` on every argument without CR: with another, on one that is empty, lines differ
pub call_differs :
    make_bat_command_line_by append_nothing [] (Regular [] ∷ []) false ∷ make_bat_command_line [] (Regular [] ∷ []) false ∷ []
    ≡ Ok (batch_front ++ units "\"\" \"") ∷ Ok (batch_front ++ units "\"\" \"\"\"") ∷ []
unfolding make_bat_command_line batch_front
call_differs = refl

-- ---- `append_bat_arg`

-- the two sides of `append_bat_arg_same` on a regular argument, quotes not forced
abbrev pub argument_sides : List ℕ → Sides (List ℕ)
argument_sides arg = (rust_says (append_bat_arg [] arg false), finding_says (nul_finding (record { kind = regular; content = arg })) (batch_form false arg))

-- a CR, given to the function itself, is written as a `%` is. From `make_bat_command_line` none comes.
pub return_in_argument :
    argument_sides (carriage_return ∷ []) ≡ (gives (units "\"%%cd:~,\r\""), gives (units "\"\r\""))
unfolding append_bat_arg batch_form
return_in_argument = refl

-- ---- `make_envp`

-- the case of letters A to Z folded, and of no other unit
abbrev pub upper : ℕ → ℕ
upper x = pick (within 97 122 x) (x - 32) x

-- the two sides of `make_envp_same`, in an order that ignores the case of A to Z
abbrev pub block_sides : List ℕ → List ℕ → ℕ → Sides (List ℕ)
block_sides records text room =
    (rust_says (make_envp (some (btree_map (cmp upper) (entries_of text records)))), port_says (environment_block records text room))

-- 1: a flat list that ends inside a record
pub block_record_cut : block_sides (0 ∷ []) [] 2 ≡ (gives (nul ∷ nul ∷ []), refuses 1)
unfolding make_envp btree_map cmp entries_of environment_block
block_record_cut = refl

-- 2: a block of 65,537 units, of one entry whose key and value are one text; with one unit less in it there are 65,535
pub block_too_long :
    block_sides (0 ∷ 32767 ∷ 0 ∷ 32767 ∷ []) (replicate 32767 97) 0
    ≡ (gives (replicate 32767 97 ++ equals ∷ replicate 32767 97 ++ nul ∷ nul ∷ []), refuses 2)
unfolding make_envp btree_map cmp entries_of environment_block
block_too_long = refl

-- 4: no room
pub block_without_room : block_sides [] [] 0 ≡ (gives (nul ∷ nul ∷ []), refuses 4)
unfolding make_envp btree_map cmp entries_of environment_block
block_without_room = refl

-- keys out of order: `A`, then an empty one, without values. The map yields the empty one first.
pub keys_out_of_order :
    block_sides (0 ∷ 1 ∷ 0 ∷ 0 ∷ 0 ∷ 0 ∷ 0 ∷ 0 ∷ []) (units "A") 6
    ≡ (gives (units "=" ++ nul ∷ units "A=" ++ nul ∷ nul ∷ []), gives (units "A=" ++ nul ∷ units "=" ++ nul ∷ nul ∷ []))
unfolding make_envp btree_map cmp entries_of environment_block units
keys_out_of_order = refl

-- keys that are not distinct: the empty one twice. The map yields one entry.
pub keys_equal :
    block_sides (0 ∷ 0 ∷ 0 ∷ 0 ∷ 0 ∷ 0 ∷ 0 ∷ 0 ∷ []) [] 5
    ≡ (gives (units "=" ++ nul ∷ nul ∷ []), gives (units "=" ++ nul ∷ units "=" ++ nul ∷ nul ∷ []))
unfolding make_envp btree_map cmp entries_of environment_block units
keys_equal = refl

-- keys that differ only in case: `a`, then `A`. The map yields one entry, under the first.
pub keys_equal_but_for_case :
    block_sides (0 ∷ 1 ∷ 0 ∷ 0 ∷ 1 ∷ 1 ∷ 0 ∷ 0 ∷ []) (units "aA") 7
    ≡ (gives (units "a=" ++ nul ∷ nul ∷ []), gives (units "a=" ++ nul ∷ units "A=" ++ nul ∷ nul ∷ []))
unfolding make_envp btree_map cmp entries_of environment_block units
keys_equal_but_for_case = refl

-- ---- `parse_lp_cmd_line`

-- the two sides of `parse_lp_cmd_line_same`, with an empty executable name
abbrev pub read_sides : List ℕ → ℕ → ℕ → Sides (List (List ℕ))
read_sides lent room numbers = (gives (parse_lp_cmd_line (some (w_str_units lent)) []), port_says (reading [] lent room numbers))

-- 2: a line of 32,768 units
pub read_too_long : read_sides (replicate 32768 97) 0 0 ≡ (gives (replicate 32768 97 ∷ []), refuses 2)
unfolding parse_lp_cmd_line w_str_units reading
read_too_long = refl

-- 3: no place for the argument
pub read_without_place : read_sides [] 0 0 ≡ (gives ([] ∷ []), refuses 3)
unfolding parse_lp_cmd_line w_str_units reading
read_without_place = refl

-- 4: no room for the unit
pub read_without_room : read_sides (97 ∷ []) 0 2 ≡ (gives ((97 ∷ []) ∷ []), refuses 4)
unfolding parse_lp_cmd_line w_str_units reading
read_without_room = refl

-- `while_same` asks for as many turns as there are units: without one, a unit is left
pub turns_too_few :
    while_w 0 [] [] false (97 ∷ []) ∷ while_w 1 [] [] false (97 ∷ []) ∷ [] ≡ ([], [], false, 97 ∷ []) ∷ ([], 97 ∷ [], false, []) ∷ []
unfolding while_w
turns_too_few = refl

-- ---- `ExitStatus`

-- the two sides of `exit_code_same`: 4,294,967,296 is no `u32`
pub no_status_code : exit_code 4294967296 ∷ some (signed_code 4294967296) ∷ [] ≡ some (neg_ℤ (pos 4294967296)) ∷ some (pos 0) ∷ []
unfolding exit_code signed_code
no_status_code = refl

-- the two sides of `exit_display_same`
abbrev pub status_sides : ℕ → ℕ → Sides (List ℕ)
status_sides status room = (gives (exit_display status), port_says (status_outcome status room))

-- of 4,294,967,296, which is no `u32`, the high bit of the lower 32 is not set
pub no_status : status_sides 4294967296 21 ≡ (gives (units "exit code: 4294967296"), gives (units "exit code: 0x00000000"))
unfolding exit_display status_outcome
no_status = refl

-- 4: no room
pub status_without_room : status_sides 0 0 ≡ (gives (units "exit code: 0"), refuses 4)
unfolding exit_display status_outcome
status_without_room = refl

-- ---- texts

-- `any_bytes` asks for a test that holds of no number from 128 up: that a number is 0xc2 holds of a byte of U+0080, and of no unit of it
pub test_above : any (λ b. b == 0xc2) (as_encoded_bytes (0x80 ∷ [])) ∷ any (λ b. b == 0xc2) (0x80 ∷ []) ∷ [] ≡ true ∷ false ∷ []
unfolding as_encoded_bytes
test_above = refl
