-- What stands for the Rust's language: tests, casts, `if let`, loops with `break`. Assumes nothing.
-- `if`, `==` on numbers, `&&` and `||` are the library's own. Borrowed from `rules` (Choice): `flip`, by which the rules make their own tests.
use Rattle.std.specs.Prelude.{ℕ, ◌/◌, ◌%◌, ◌*◌, Bool, false, ◌==◌, ℤ, pos, ◌-ℤ◌}
use Prim.Native.Char.{Char, code}
use Rattle.std.proofs.Math.Option.{Option, none, some}
use Rattle.rules.specs.Choice.{flip}

infix 5 if-let-Some◌of◌else◌
infix 60 ◌==Some◌
infix 50 !◌
-- ---- tests

-- `o == Some(n)`
abbrev pub ◌==Some◌ : Option ℕ → ℕ → Bool
none ==Some n = false
some m ==Some n = m == n

-- `!`
abbrev pub !◌ : Bool → Bool
! b = flip b

-- `if let Some(a) = o`, and what is so where it is none
abbrev pub if-let-Some◌of◌else◌ : {A B : Type 0} → Option A → (A → B) → B → B
if-let-Some none of f else other = other
if-let-Some (some a) of f else other = f a

-- ---- numbers

-- `'c' as u16`, `b'c' as u16`
abbrev pub u16 : Char → ℕ
u16 c = code c

-- `as i32` of a `u32`: the same 32 bits, of which the highest counts -2,147,483,648
abbrev pub as_i32 : ℕ → ℤ
as_i32 n = pos (n % 0x80000000) -ℤ pos (n / 0x80000000 * 0x80000000)

-- `n & 0x80000000`
abbrev pub and_high_bit : ℕ → ℕ
and_high_bit n = n / 0x80000000 % 2 * 0x80000000

-- ---- loops

-- how a turn of a loop ends, with the locals: the next turn follows, or `break`
pub data ControlFlow (A : Type 0) : Type 0 where
  Continue Break : A → ControlFlow A

-- on to the next turn, or out of the loop
abbrev pub go_on : {A B : Type 0} → ControlFlow A → (A → B) → (A → B) → B
go_on (Continue locals) more out = more locals
go_on (Break locals) more out = out locals
