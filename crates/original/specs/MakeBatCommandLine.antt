-- `make_bat_command_line`, statement by statement. Assumes nothing.
-- Behind each line stands where it is in the Rust: `args` is sys/args/windows.rs.
use Rattle.std.specs.Prelude.{ℕ, Bool, List, [], ◌∷◌, ◌||◌}
use Rattle.original.specs.Language.{◌==Some◌, u16}
use Rattle.original.specs.Shims.{Result, Ok, invalid_argument, invalid_script, when◌return-Err◌, push, extend, iter_any, contains, last, strip_suffix, unwrap_or, str, as_encoded_bytes, ◌>>=◌}
use Rattle.original.specs.AppendArg.{Arg, Regular, Raw, append_arg}
use Rattle.original.specs.AppendBatArg.{append_bat_arg}

-- `DISALLOWED`: args 328
abbrev pub DISALLOWED : List ℕ
DISALLOWED = u16 "\r" ∷ u16 "\n" ∷ []

-- the type of `append_bat_arg`
abbrev pub Append : Type 0
Append = List ℕ → List ℕ → Bool → Result (List ℕ)

-- the `match` on one argument, where the call of `append_bat_arg` is a parameter, so that a theorem can say with which arguments it is called
unfoldable pub match_arg : Append → List ℕ → Arg → Bool → Result (List ℕ)
unfolding as_encoded_bytes append_arg
match_arg append_bat_arg cmd (Regular arg-os) force-quotes = do  -- args 325
  let arg-bytes = as_encoded_bytes arg-os  -- args 326
  _ ← when iter_any (λ c. contains DISALLOWED c) arg-bytes return-Err invalid_argument  -- args 329 - 331
  append_bat_arg cmd arg-os force-quotes  -- args 332
match_arg append_bat_arg cmd (Raw arg-os) force-quotes = append_arg cmd (Raw arg-os) force-quotes  -- args 334 - 338

-- the loop over the arguments
unfoldable pub for_bat_args : Append → List ℕ → List Arg → Bool → Result (List ℕ)
unfolding match_arg
for_bat_args append_bat_arg cmd [] force-quotes = Ok cmd  -- args 340
for_bat_args append_bat_arg cmd (arg ∷ args) force-quotes = do  -- args 322
  let cmd = push cmd (u16 " ")  -- args 323
  cmd ← match_arg append_bat_arg cmd arg force-quotes  -- args 324
  for_bat_args append_bat_arg cmd args force-quotes

-- `make_bat_command_line`, over what is called for a regular argument
unfoldable pub make_bat_command_line_by : Append → List ℕ → List Arg → Bool → Result (List ℕ)
unfolding str for_bat_args
make_bat_command_line_by append_bat_arg script args force-quotes = do  -- args 292
  let cmd = str "cmd.exe /e:ON /v:OFF /d /c \""  -- args 304
  let cmd = push cmd (u16 "\"")  -- args 307
  _ ← when contains script (u16 "\"") || last script ==Some u16 "\\" return-Err invalid_script  -- args 310 - 315
  let cmd = extend cmd (unwrap_or (strip_suffix script 0) script)  -- args 316
  let cmd = push cmd (u16 "\"")  -- args 317
  cmd ← for_bat_args append_bat_arg cmd args force-quotes  -- args 322
  let cmd = push cmd (u16 "\"")  -- args 343
  Ok cmd  -- args 345

-- `make_bat_command_line`
unfoldable pub make_bat_command_line : List ℕ → List Arg → Bool → Result (List ℕ)
unfolding make_bat_command_line_by append_bat_arg
make_bat_command_line script args force-quotes = make_bat_command_line_by append_bat_arg script args force-quotes
