-- `append_bat_arg`, statement by statement. Assumes nothing.
-- Behind each line stands where it is in the Rust: `args` is sys/args/windows.rs.
use Rattle.std.specs.Prelude.{ℕ, ◌+◌, Bool, true, List, [], ◌∷◌, if◌then◌else◌, ◌==◌, ◌&&◌, ◌||◌}
use Rattle.original.specs.Language.{if-let-Some◌of◌else◌, ◌==Some◌, !◌, u16}
use Rattle.original.specs.Shims.{Result, Ok, ensure_no_nuls, push, extend, times, is-empty, contains, last, str, is_ascii, is_ascii_alphanumeric, is_control, as_encoded_bytes, encode_wide, code_points, to_char, ◌>>=◌}

-- `UNQUOTED`: args 237
unfoldable pub UNQUOTED : List ℕ
unfolding str
UNQUOTED = str "#$*+-./:?@\\_"

-- the loop over the argument's code points
unfoldable pub for_code_points : Bool → List ℕ → Bool
unfolding UNQUOTED
for_code_points quote [] = quote  -- args 244
for_code_points quote (cp ∷ cps) = do  -- args 231
  let quote =
      if-let-Some (to_char cp) of (λ cp. do  -- args 232
        let ascii-needs-quotes = is_ascii cp && ! (is_ascii_alphanumeric cp || contains UNQUOTED cp)  -- args 238 - 239
        if ascii-needs-quotes || is_control cp then true else quote)  -- args 240 - 242
      else quote  -- args 243
  for_code_points quote cps

-- the loop over the argument's units
unfoldable pub for_bat_units : List ℕ → ℕ → List ℕ → List ℕ × ℕ
for_bat_units cmd backslashes [] = (cmd, backslashes)  -- args 283
for_bat_units cmd backslashes (x ∷ xs) = do  -- args 252
  let (cmd, backslashes) : List ℕ × ℕ =
      if x == u16 "\\" then (do  -- args 253
        let backslashes = backslashes + 1  -- args 254
        (cmd, backslashes))
      else (do  -- args 255
        let cmd =
            if x == u16 "\"" then (do  -- args 256
              let cmd = extend cmd (times backslashes (u16 "\\"))  -- args 258
              push cmd (u16 "\""))  -- args 260
            else if x == u16 "%" || x == u16 "\r" then (do  -- args 261
              extend cmd (u16 "%" ∷ u16 "%" ∷ u16 "c" ∷ u16 "d" ∷ u16 ":" ∷ u16 "~" ∷ u16 "," ∷ []))  -- args 275 - 278
            else cmd  -- args 279
        let backslashes : ℕ = 0  -- args 280
        (cmd, backslashes))
  let cmd = push cmd x  -- args 282
  for_bat_units cmd backslashes xs

-- `append_bat_arg`
unfoldable pub append_bat_arg : List ℕ → List ℕ → Bool → Result (List ℕ)
unfolding as_encoded_bytes code_points for_code_points for_bat_units
append_bat_arg cmd arg quote = do  -- args 219
  _ ← ensure_no_nuls arg  -- args 220
  let quote = if is-empty arg || last (as_encoded_bytes arg) ==Some u16 "\\" then true else quote  -- args 228 - 230
  let quote = for_code_points quote (code_points arg)  -- args 231
  let cmd = if quote then push cmd (u16 "\"") else cmd  -- args 246 - 248
  let backslashes : ℕ = 0  -- args 251
  let (cmd, backslashes) = for_bat_units cmd backslashes (encode_wide arg)  -- args 252
  let cmd =
      if quote then (do  -- args 284
        let cmd = extend cmd (times backslashes (u16 "\\"))  -- args 286
        push cmd (u16 "\""))  -- args 287
      else cmd  -- args 288
  Ok cmd  -- args 289
