-- The signed code of a status is the number that its 32 bits stand for. Assumes nothing.
use Prim.Native.Nat.{ℕ, ◌<◌, ◌^◌}
use mathlib.Core.Path.{◌≡◌}
use borrow.Author.Tests.{lt-ltb}
use mir.Syntax.{w32}
use Rattle.std.specs.Int.{cast_signed}
use Rattle.rules.specs.Status.{signed_code}

pub signed : (status : ℕ) → status < 2 ^ 32 → cast_signed w32 status ≡ signed_code status
unfolding signed_code
signed status fits = rw (lt-ltb status 4294967296 fits)
