-- `append_arg`, statement by statement. Assumes nothing.
-- Behind each line stands where it is in the Rust: `args` is sys/args/windows.rs.
use Rattle.std.specs.Prelude.{ℕ, ◌+◌, Bool, true, false, List, [], ◌∷◌, if◌then◌else◌, ◌==◌, ◌||◌}
use Rattle.original.specs.Language.{u16}
use Rattle.original.specs.Shims.{Result, Ok, ensure_no_nuls, push, extend, times, is-empty, iter_any, as_encoded_bytes, encode_wide, ◌>>=◌}

-- `enum Arg`
pub data Arg : Type 0 where
  Regular : List ℕ → Arg  -- args 159
  Raw : List ℕ → Arg  -- args 161

-- `enum Quote`: args 166, 168, 170
pub data Quote : Type 0 where
  Always Auto Never : Quote

-- the first `match`: the argument, and how it is quoted
abbrev pub arg_and_quote : Arg → Bool → List ℕ × Quote
arg_and_quote (Regular arg) force-quotes = (arg, if force-quotes then Always else Auto)  -- args 175
arg_and_quote (Raw arg) force-quotes = (arg, Never)  -- args 176

-- the second `match`: whether quotes stand around it, and whether it is escaped
abbrev pub quote_and_escape : Quote → List ℕ → Bool × Bool
quote_and_escape Always arg-bytes = (true, true)  -- args 185
quote_and_escape Auto arg-bytes = (iter_any (λ c. c == u16 " " || c == u16 "\t") arg-bytes || is-empty arg-bytes, true)  -- args 186 - 188
quote_and_escape Never arg-bytes = (false, false)  -- args 189

-- the loop over the argument's units
unfoldable pub for_units : Bool → List ℕ → ℕ → List ℕ → List ℕ × ℕ
for_units escape cmd backslashes [] = (cmd, backslashes)  -- args 209
for_units escape cmd backslashes (x ∷ xs) = do  -- args 196
  let (cmd, backslashes) : List ℕ × ℕ =
      if escape then (do  -- args 197
        let (cmd, backslashes) : List ℕ × ℕ =
            if x == u16 "\\" then (do  -- args 198
              let backslashes = backslashes + 1  -- args 199
              (cmd, backslashes))
            else (do  -- args 200
              let cmd = if x == u16 "\"" then extend cmd (times (backslashes + 1) (u16 "\\")) else cmd  -- args 201 - 204
              let backslashes : ℕ = 0  -- args 205
              (cmd, backslashes))
        (cmd, backslashes))
      else (cmd, backslashes)  -- args 207
  let cmd = push cmd x  -- args 208
  for_units escape cmd backslashes xs

-- `append_arg`
unfoldable pub append_arg : List ℕ → Arg → Bool → Result (List ℕ)
unfolding as_encoded_bytes for_units
append_arg cmd arg force-quotes = do  -- args 173
  let (arg, quote) = arg_and_quote arg force-quotes  -- args 174
  _ ← ensure_no_nuls arg  -- args 182
  let arg-bytes = as_encoded_bytes arg  -- args 183
  let (quote, escape) = quote_and_escape quote arg-bytes  -- args 184
  let cmd = if quote then push cmd (u16 "\"") else cmd  -- args 191 - 193
  let backslashes : ℕ = 0  -- args 195
  let (cmd, backslashes) = for_units escape cmd backslashes (encode_wide arg)  -- args 196
  let cmd =
      if quote then (do  -- args 211
        let cmd = extend cmd (times backslashes (u16 "\\"))  -- args 213
        push cmd (u16 "\""))  -- args 214
      else cmd  -- args 215
  Ok cmd  -- args 216
