-- What no theorem of this crate pins, pinned by computing; and the Rust's comments that say less or other than its code. Assumes nothing.
use Rattle.std.specs.Prelude.{ℕ, ◌≡◌, refl, true, false, List, [], ◌∷◌, map}
use Rattle.std.proofs.Math.Option.{none, some}
use Rattle.rules.specs.Unit.{units, nul, tab, space, quote, backslash}
use Rattle.rules.specs.Record.{Entry}
use Rattle.rules.specs.Building.{batch_command_line}
use Rattle.rules.specs.Reading.{reading}
use Rattle.original.specs.Shims.{Ok, Less, Equal, Greater, is_control, code_points, to_char, as_encoded_bytes, w_str_units, btree_map}
use Rattle.original.specs.ParseLpCmdLine.{BACKSLASH, QUOTE, TAB, SPACE, parse_lp_cmd_line}
use Rattle.original.specs.MakeBatCommandLine.{make_bat_command_line}
use Rattle.original.specs.MakeEnvp.{cmp, make_envp}
use Rattle.original.specs.Domain.{gives}
use Rattle.original.specs.Outside.{upper, read_sides, batch_sides, only_script}

-- ---- characters and texts

-- WTF-8 of U+007F, U+00E9, U+20AC, of the pair of U+1F600, of a lone high and a lone low surrogate, and of a low one before a high one
pub encodings :
    map as_encoded_bytes
    ((0x7f ∷ []) ∷ (0xe9 ∷ []) ∷ (0x20ac ∷ []) ∷ (0xd83d ∷ 0xde00 ∷ []) ∷ (0xd800 ∷ []) ∷ (0xdfff ∷ []) ∷ (0xdc00 ∷ 0xd800 ∷ []) ∷ [])
    ≡ (0x7f ∷ [])
    ∷ (0xc3 ∷ 0xa9 ∷ [])
    ∷ (0xe2 ∷ 0x82 ∷ 0xac ∷ [])
    ∷ (0xf0 ∷ 0x9f ∷ 0x98 ∷ 0x80 ∷ [])
    ∷ (0xed ∷ 0xa0 ∷ 0x80 ∷ [])
    ∷ (0xed ∷ 0xbf ∷ 0xbf ∷ [])
    ∷ (0xed ∷ 0xb0 ∷ 0x80 ∷ 0xed ∷ 0xa0 ∷ 0x80 ∷ [])
    ∷ []
unfolding as_encoded_bytes
encodings = refl

-- a pair is one code point; before it a lone high surrogate stays one
pub points : code_points (0xd800 ∷ 0xd83d ∷ 0xde00 ∷ 0x41 ∷ []) ≡ 0xd800 ∷ 0x1f600 ∷ 0x41 ∷ []
unfolding code_points
points = refl

-- surrogates, from 0xd800 to 0xdfff, are no characters
pub characters :
    map to_char (0xd7ff ∷ 0xd800 ∷ 0xdfff ∷ 0xe000 ∷ 0x1f600 ∷ []) ≡ some 0xd7ff ∷ none ∷ none ∷ some 0xe000 ∷ some 0x1f600 ∷ []
characters = refl

-- the control characters: each block's ends, and their neighbours
pub controls : map is_control (0x00 ∷ 0x1f ∷ 0x20 ∷ 0x7e ∷ 0x7f ∷ 0x9f ∷ 0xa0 ∷ []) ≡ true ∷ true ∷ false ∷ false ∷ true ∷ true ∷ false ∷ []
controls = refl

-- ---- the map

-- an entry of a key and a value
abbrev key_and_value : List ℕ → List ℕ → Entry
key_and_value k v = record { key = k; value = v }

-- keys are compared with their case folded, unit by unit: `a` and `A`, `_` and `a`, `b` and `C`, a key and its beginning
pub orders :
    cmp upper (units "a") (units "A")
    ∷ cmp upper (units "_") (units "a")
    ∷ cmp upper (units "b") (units "C")
    ∷ cmp upper (units "ab") (units "A")
    ∷ []
    ≡ Equal ∷ Greater ∷ Less ∷ Greater ∷ []
unfolding cmp units
orders = refl

-- equal keys under an order that ignores case, `a` = 1 and then `A` = 2: the map keeps the first key and the last value
pub first_key_last_value :
    btree_map (cmp upper) (key_and_value (units "a") (units "1") ∷ key_and_value (units "A") (units "2") ∷ []) ≡ key_and_value (units "a") (units "2") ∷ []
unfolding btree_map cmp units
first_key_last_value = refl

-- no environment at all: no units, and in the Rust a null pointer beside them
pub no_environment : make_envp none ≡ Ok []
unfolding make_envp
no_environment = refl

-- ---- lines

-- the constants of `parse_lp_cmd_line` (args 58 - 61): none of them is 0, so their `unwrap` finds a number
pub constants : BACKSLASH ∷ QUOTE ∷ TAB ∷ SPACE ∷ [] ≡ backslash ∷ quote ∷ tab ∷ space ∷ []
constants = refl

-- a null line: the executable name
pub null_line : parse_lp_cmd_line none (units "x") ≡ units "x" ∷ []
unfolding parse_lp_cmd_line
null_line = refl

-- lent units without a NUL end where they end, as if one followed
pub line_without_nul : w_str_units [] ∷ w_str_units (97 ∷ []) ∷ [] ≡ w_str_units (nul ∷ []) ∷ w_str_units (97 ∷ nul ∷ 98 ∷ []) ∷ []
unfolding w_str_units
line_without_nul = refl

-- ---- comments of the Rust that say less or other than its code: both sides go by the code

-- args 137 says of a quote mark met in quotes, with another unit behind it, that it sets `in_quotes`. Line 138 unsets it: the last blank ends the argument.
pub quote_closes : read_sides (units " \"\" ") 0 4 ≡ (gives ([] ∷ [] ∷ []), gives ([] ∷ [] ∷ []))
unfolding parse_lp_cmd_line w_str_units reading units
quote_closes = refl

-- The list of rules in args 90 - 101 does not say what is given at the end of the line: in quotes an argument is, though it is empty.
pub quote_at_end : read_sides (units " \"") 0 4 ≡ (gives ([] ∷ [] ∷ []), gives ([] ∷ [] ∷ []))
unfolding parse_lp_cmd_line w_str_units reading units
quote_at_end = refl

-- args 299 has only the first and the last word of the front that line 304 writes
pub whole_front : batch_sides [] [] [] 31 ≡ (gives (units "cmd.exe /e:ON /v:OFF /d /c \"\"\"\""), gives (units "cmd.exe /e:ON /v:OFF /d /c \"\"\"\""))
unfolding make_bat_command_line batch_command_line units
whole_front = refl

-- args 308 - 309 says that a script which ends with a backslash is an error. Line 310 looks before the final NUL is dropped, and finds none.
pub backslash_before_nul : batch_sides (backslash ∷ nul ∷ []) [] [] 32 ≡ (gives (only_script (backslash ∷ [])), gives (only_script (backslash ∷ [])))
unfolding make_bat_command_line batch_command_line
backslash_before_nul = refl
