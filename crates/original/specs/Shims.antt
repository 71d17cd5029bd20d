-- What stands for the Rust's library, under its names (`is-empty`, beside the `is_empty` of `rules`). Assumes nothing.
-- A vector is a list, and what is pushed comes to its end. A text (`OsStr`, `OsString`) is its units.
-- Units are `u16` in the Rust; no definition and no theorem here needs that they are below 65,536.
-- Borrowed from `rules`: `any` and `is_empty` (Choice), `units` and `within` (Unit), `Entry` (Record).
-- Nothing stands for what changes no value: `as_ref`, `as_inner`, `iter`, `collect`, `NonZero::get`.
use Rattle.std.specs.Prelude.{ℕ, zero, suc, ◌+◌, ◌-◌, ◌*◌, ◌/◌, ◌%◌, Bool, true, false, List, [], ◌∷◌, ◌++◌, leb, ltb, length, drop, replicate, if◌then◌else◌, ◌==◌, ◌&&◌, ◌||◌}
use Prim.Native.String.{String}
use Rattle.std.proofs.Math.Option.{Option, none, some}
use Rattle.rules.specs.Choice.{any, is_empty}
use Rattle.rules.specs.Unit.{units, within}
use Rattle.rules.specs.Record.{Entry}
use Rattle.original.specs.Language.{u16}

infixl 20 ◌>>=◌
infix 5 when◌return-Err◌
-- ---- options

-- `is_none`
abbrev pub is_none {ℓ} : {A : Type ℓ} → Option A → Bool
is_none none = true
is_none (some a) = false

-- `and_then`
abbrev pub and_then {ℓ ℓ'} : {A : Type ℓ} {B : Type ℓ'} → Option A → (A → Option B) → Option B
and_then none f = none
and_then (some a) f = f a

-- `unwrap_or`
abbrev pub unwrap_or {ℓ} : {A : Type ℓ} → Option A → A → A
unwrap_or none other = other
unwrap_or (some a) other = a

-- `unwrap`: where there is none the Rust panics. What stands for that is given first.
-- It never counts: `unwrap_unreached` (ForParseLpCmdLine) and, of the constants, `constants` (Pinned).
abbrev pub unwrap {ℓ} : {A : Type ℓ} → A → Option A → A
unwrap panic none = panic
unwrap panic (some a) = a

-- ---- errors

-- The errors that the judged functions give, without their kinds and texts.
-- They are a NUL found by `ensure_no_nuls`; the constant of args 297 - 298, for an argument; and args 311 - 314, for a script.
pub data Error : Type 0 where
  nul_found invalid_argument invalid_script : Error

-- `io::Result`
pub data Result (A : Type 0) : Type 0 where
  Ok : A → Result A
  Err : Error → Result A

-- `?`: an error ends the function. `x ← e` is `let x = e?`.
abbrev pub ◌>>=◌ : {A B : Type 0} → Result A → (A → Result B) → Result B
Ok a >>= more = more a
Err e >>= more = Err e

-- an early return of an error: `_ ← when test return-Err e` is `if test { return Err(e) }`
abbrev pub when◌return-Err◌ : Bool → Error → Result (Unit {0})
when test return-Err e = if test then Err e else Ok tt

-- ---- vectors and slices

-- `push`
abbrev pub push {ℓ} : {A : Type ℓ} → List A → A → List A
push v x = v ++ x ∷ []

-- `extend`, `extend_from_slice`
abbrev pub extend : List ℕ → List ℕ → List ℕ
extend v xs = v ++ xs

-- the same unit n times: `(0..n).map(|_| x)`, `iter::repeat(x).take(n)`
abbrev pub times : ℕ → ℕ → List ℕ
times n x = replicate n x

-- `is_empty`
abbrev pub is-empty {ℓ} : {A : Type ℓ} → List A → Bool
is-empty xs = is_empty xs

-- `iter().any`
abbrev pub iter_any : (ℕ → Bool) → List ℕ → Bool
iter_any test xs = any test xs

-- `contains`
abbrev pub contains : List ℕ → ℕ → Bool
contains xs x = any (λ y. x == y) xs

-- `last`
abbrev pub last : List ℕ → Option ℕ
last [] = none
last (x ∷ []) = some x
last (x ∷ y ∷ ys) = last (y ∷ ys)

-- `get(i..)`
abbrev pub get_from : List ℕ → ℕ → Option (List ℕ)
get_from xs i = if leb i (length xs) then some (drop i xs) else none

-- a unit before what an option holds
abbrev pub put_before : ℕ → Option (List ℕ) → Option (List ℕ)
put_before x none = none
put_before x (some xs) = some (x ∷ xs)

-- `strip_suffix(&[s])`
abbrev pub strip_suffix : List ℕ → ℕ → Option (List ℕ)
strip_suffix [] s = none
strip_suffix (x ∷ []) s = if x == s then some [] else none
strip_suffix (x ∷ y ∷ ys) s = put_before x (strip_suffix (y ∷ ys) s)

-- ---- characters, and texts in quotes

-- a text in quotes, whose characters are one unit each: as `&str` its characters, by `encode_utf16` its units
unfoldable pub str : String → List ℕ
unfolding units
str text = units text

-- `char::is_ascii`
abbrev pub is_ascii : ℕ → Bool
is_ascii cp = ltb cp 128

-- `char::is_ascii_alphanumeric`
abbrev pub is_ascii_alphanumeric : ℕ → Bool
is_ascii_alphanumeric cp = within (u16 "A") (u16 "Z") cp || within (u16 "a") (u16 "z") cp || within (u16 "0") (u16 "9") cp

-- `char::is_control`: the control blocks C0 with DEL, and C1
abbrev pub is_control : ℕ → Bool
is_control cp = within 0x00 0x1f cp || within 0x7f 0x9f cp

-- ---- texts: the Rust keeps WTF-8 bytes that encode code points, here the units are the text

-- `OsString::from_wide`
abbrev pub from_wide : List ℕ → List ℕ
from_wide wide = wide

-- `encode_wide`
abbrev pub encode_wide : List ℕ → List ℕ
encode_wide arg = arg

-- a high surrogate, which a low one makes a pair
abbrev pub is_high : ℕ → Bool
is_high x = within 0xd800 0xdbff x

-- a low surrogate
abbrev pub is_low : ℕ → Bool
is_low x = within 0xdc00 0xdfff x

-- the code point of a pair
abbrev pub pair : ℕ → ℕ → ℕ
pair high low = 0x10000 + ((high - 0xd800) * 0x400 + (low - 0xdc00))

-- `code_points`: a pair of surrogates is one code point, every other unit is its own
unfoldable pub code_points : List ℕ → List ℕ
code_points [] = []
code_points (x ∷ []) = x ∷ []
code_points (x ∷ y ∷ ys) =
    let joined = pair x y ∷ code_points ys in
    let alone = x ∷ code_points (y ∷ ys) in
    if is_high x && is_low y then joined else alone

-- `to_char`: an unpaired surrogate is no character
abbrev pub to_char : ℕ → Option ℕ
to_char cp = if within 0xd800 0xdfff cp then none else some cp

-- the bytes of a code point
abbrev pub encoded : ℕ → List ℕ
encoded cp =
    if ltb cp 0x80 then cp ∷ []
    else if ltb cp 0x800 then (0xc0 + cp / 64) ∷ (0x80 + cp % 64) ∷ []
    else if ltb cp 0x10000 then (0xe0 + cp / 4096) ∷ (0x80 + cp / 64 % 64) ∷ (0x80 + cp % 64) ∷ []
    else (0xf0 + cp / 262144) ∷ (0x80 + cp / 4096 % 64) ∷ (0x80 + cp / 64 % 64) ∷ (0x80 + cp % 64) ∷ []

-- the bytes of code points
unfoldable pub encoded_all : List ℕ → List ℕ
encoded_all [] = []
encoded_all (cp ∷ cps) = encoded cp ++ encoded_all cps

-- `as_encoded_bytes`
unfoldable pub as_encoded_bytes : List ℕ → List ℕ
unfolding code_points encoded_all
as_encoded_bytes arg = encoded_all (code_points arg)

-- ---- numbers

-- `NonZero::new`
abbrev pub non_zero : ℕ → Option ℕ
non_zero n = if n == 0 then none else some n

-- `checked_sub`
abbrev pub checked_sub : ℕ → ℕ → Option ℕ
checked_sub m n = if leb n m then some (m - n) else none

-- a digit, lower case
abbrev pub digit : ℕ → ℕ
digit d = if ltb d 10 then u16 "0" + d else u16 "a" + (d - 10)

-- the digits of a number in a base, in front of those already found; at most one more than the number says
unfoldable pub formatted : ℕ → ℕ → ℕ → List ℕ → List ℕ
formatted base zero n found = digit (n % base) ∷ found
formatted base (suc more) n found = do
  let found = digit (n % base) ∷ found
  let n = n / base
  if n == 0 then found else formatted base more n found

-- `{}` of a `u32`: decimal. A `u32` has at most 32 digits in any base.
abbrev pub display : ℕ → List ℕ
display n = formatted 10 31 n []

-- `{:#x}` of a `u32`: `0x` and lower-case hexadecimal
abbrev pub lower_hex : ℕ → List ℕ
lower_hex n = str "0x" ++ formatted 16 31 n []

-- ---- the map

-- `Ordering`
pub data Ordering : Type 0 where
  Less Equal Greater : Ordering

-- the type of an order of keys
abbrev pub Compare : Type 0
Compare = List ℕ → List ℕ → Ordering

-- what the first units say, or where they are equal those behind them
abbrev pub by_first : ℕ → ℕ → Ordering → Ordering
by_first x y behind = if ltb x y then Less else if ltb y x then Greater else behind

-- `CompareStringOrdinal` ignoring case, as process 54 - 68 has it: the case of each unit is folded, then units are compared as numbers.
-- How Windows folds is not in the text given: that is the parameter.
unfoldable pub compare_string_ordinal : (ℕ → ℕ) → Compare
compare_string_ordinal fold [] [] = Equal
compare_string_ordinal fold [] (y ∷ ys) = Less
compare_string_ordinal fold (x ∷ xs) [] = Greater
compare_string_ordinal fold (x ∷ xs) (y ∷ ys) = by_first (fold x) (fold y) (compare_string_ordinal fold xs ys)

-- where a key stands against the first of the map
abbrev pub at_first : Ordering → Entry → Entry → List Entry → List Entry → List Entry
at_first Less e x xs later = e ∷ x ∷ xs
at_first Equal e x xs later = record { key = x.key; value = e.value } ∷ xs
at_first Greater e x xs later = x ∷ later

-- `BTreeMap::insert`, on the entries that the map yields.
-- A new one goes in front of the first with a greater key; where the key is there, it stays and its value is replaced.
unfoldable pub insert : Compare → Entry → List Entry → List Entry
insert compare e [] = e ∷ []
insert compare e (x ∷ xs) = at_first (compare e.key x.key) e x xs (insert compare e xs)

-- the entries that the map yields once all of a list are inserted, one after another
unfoldable pub inserted : Compare → List Entry → List Entry → List Entry
unfolding insert
inserted compare yielded [] = yielded
inserted compare yielded (e ∷ env) = inserted compare (insert compare e yielded) env

-- the `BTreeMap` of a caller's entries, as the entries that it yields
unfoldable pub btree_map : Compare → List Entry → List Entry
unfolding inserted
btree_map compare entries = inserted compare [] entries

-- ---- what is not in the text given

-- `ensure_no_nuls`, by 01: 5 is "NUL in .. an argument, key or value"
abbrev pub ensure_no_nuls : List ℕ → Result (List ℕ)
ensure_no_nuls s = if any (λ x. x == 0) s then Err nul_found else Ok s

-- `WStrUnits`, by 01: "The line is the lent units up to the first NUL or the end." It is what is left of them.
unfoldable pub w_str_units : List ℕ → List ℕ
w_str_units [] = []
w_str_units (x ∷ xs) = let rest = x ∷ w_str_units xs in if x == 0 then [] else rest

-- its `peek`
abbrev pub peek : List ℕ → Option ℕ
peek [] = none
peek (w ∷ code-units) = some w

-- what its `next` leaves; what it gives is `peek`'s
abbrev pub next : List ℕ → List ℕ
next [] = []
next (w ∷ code-units) = code-units

-- its `advance_while`: how many units were passed, and what is left
unfoldable pub advance_while : (ℕ → Bool) → List ℕ → ℕ × List ℕ
advance_while predicate [] = (0, [])
advance_while predicate (w ∷ code-units) =
    let (count, left) = advance_while predicate code-units in
    if predicate w then (count + 1, left) else (0, w ∷ code-units)
