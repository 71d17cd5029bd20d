-- `make_envp`, statement by statement, and the order of the map that it is given. Assumes nothing.
-- Behind each line stands where it is in the Rust: `process` is sys/process/windows.rs.
use Rattle.std.specs.Prelude.{ℕ, List, [], ◌∷◌, if◌then◌else◌}
use Rattle.std.proofs.Math.Option.{Option, none, some}
use Rattle.rules.specs.Record.{Entry}
use Rattle.original.specs.Language.{u16}
use Rattle.original.specs.Shims.{Result, Ok, ensure_no_nuls, push, extend, is-empty, encode_wide, Compare, compare_string_ordinal, ◌>>=◌}

-- `Ord` of `EnvKey`, over how Windows folds the case of a unit. Left out is process 89, a panic where Windows fails to compare.
unfoldable pub cmp : (ℕ → ℕ) → Compare
unfolding compare_string_ordinal
cmp fold self other = compare_string_ordinal fold self other  -- process 77 - 87

-- the loop over the entries
unfoldable pub for_env : List ℕ → List Entry → Result (List ℕ)
for_env blk [] = Ok blk  -- process 910
for_env blk (e ∷ env) = do
  let (k, v) : List ℕ × List ℕ = (e.key, e.value)  -- process 904
  _ ← ensure_no_nuls k  -- process 905
  let blk = extend blk k  -- process 906
  let blk = push blk (u16 "=")  -- process 907
  v ← ensure_no_nuls v  -- process 908
  let blk = extend blk (encode_wide v)  -- process 908
  let blk = push blk 0  -- process 909
  for_env blk env

-- `make_envp`, without the pointer: `env` is what the map yields
unfoldable pub make_envp : Option (List Entry) → Result (List ℕ)
unfolding for_env
make_envp (some env) = do  -- process 895
  let blk : List ℕ = []  -- process 896
  let blk = if is-empty env then push blk 0 else blk  -- process 900 - 902
  blk ← for_env blk env  -- process 904
  let blk = push blk 0  -- process 911
  Ok blk  -- process 912
make_envp none = Ok []  -- process 913 - 914
