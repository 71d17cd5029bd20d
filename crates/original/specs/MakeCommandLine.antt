-- `make_command_line`, statement by statement. Assumes nothing.
-- Behind each line stands where it is in the Rust: `process` is sys/process/windows.rs.
use Rattle.std.specs.Prelude.{ℕ, Bool, List, [], ◌∷◌}
use Rattle.original.specs.Language.{u16}
use Rattle.original.specs.Shims.{Result, Ok, push, extend, encode_wide, ◌>>=◌}
use Rattle.original.specs.AppendArg.{Arg, append_arg}

-- the loop over the arguments
unfoldable pub for_args : List ℕ → List Arg → Bool → Result (List ℕ)
unfolding append_arg
for_args cmd [] force-quotes = Ok cmd  -- process 879
for_args cmd (arg ∷ args) force-quotes = do  -- process 876
  let cmd = push cmd (u16 " ")  -- process 877
  cmd ← append_arg cmd arg force-quotes  -- process 878
  for_args cmd args force-quotes

-- `make_command_line`
unfoldable pub make_command_line : List ℕ → List Arg → Bool → Result (List ℕ)
unfolding for_args
make_command_line argv0 args force-quotes = do  -- process 863
  let cmd : List ℕ = []  -- process 866
  let cmd = push cmd (u16 "\"")  -- process 872
  let cmd = extend cmd (encode_wide argv0)  -- process 873
  let cmd = push cmd (u16 "\"")  -- process 874
  cmd ← for_args cmd args force-quotes  -- process 876
  Ok cmd  -- process 880
