-- `ExitStatus`: `code` and `Display`. Assumes nothing.
-- Behind each line stands where it is in the Rust: `process` is sys/process/windows.rs.
use Rattle.std.specs.Prelude.{ℕ, List, ◌++◌, ℤ, if◌then◌else◌, ◌==◌}
use Rattle.std.proofs.Math.Option.{Option, some}
use Rattle.original.specs.Language.{ !◌, as_i32, and_high_bit}
use Rattle.original.specs.Shims.{str, formatted, display, lower_hex}

-- `code`
unfoldable pub exit_code : ℕ → Option ℤ
exit_code status = some (as_i32 status)  -- process 763

-- `Display`
unfoldable pub exit_display : ℕ → List ℕ
unfolding str formatted
exit_display status =
    if ! (and_high_bit status == 0) then str "exit code: " ++ lower_hex status  -- process 781 - 782
    else str "exit code: " ++ display status  -- process 783 - 784
