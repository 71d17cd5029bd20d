-- The recorded status of a finished child process: its text and its signed code. Assumes nothing.
-- "The recorded status of a finished child process is a number below 4,294,967,296."
use Rattle.std.specs.Prelude.{ℕ, zero, suc, ◌+◌, ◌/◌, ◌%◌, List, [], ◌∷◌, ◌++◌, ltb, length, ℤ, pos, ◌-ℤ◌}
use Rattle.rules.specs.Choice.{pick}
use Rattle.rules.specs.Unit.{units}
use Rattle.rules.specs.Outcome.{Outcome, done, refuse}

-- the unit of a digit: 0 to 9, then a to f in lower case
abbrev pub glyph : ℕ → ℕ
glyph d = pick (ltb d 10) (48 + d) (87 + d)

-- the digits of n in a base, at most fuel + 1 of them; none in front that could be left out
unfoldable pub digits : ℕ → ℕ → ℕ → List ℕ
digits base zero n = glyph (n % base) ∷ []
digits base (suc fuel) n =
    let higher = digits base fuel (n / base) ++ glyph (n % base) ∷ [] in
    pick (ltb n base) (glyph n ∷ []) higher

-- the status from which on the text is hexadecimal and the code negative: "From 2,147,483,648 up"
abbrev pub high_bit : ℕ
high_bit = 2147483648

-- "11 front units: the word `exit`, a space, `code:`, a space"
unfoldable pub status_front : List ℕ
unfolding units
status_front = units "exit code: "

-- "From 2,147,483,648 up `0x` and lower-case hex follow, else decimal". A status has at most 10 decimal and 8 hexadecimal digits.
unfoldable pub status_text : ℕ → List ℕ
unfolding digits units status_front
status_text status =
    let decimal = digits 10 9 status in
    let hexadecimal = units "0x" ++ digits 16 7 status in
    status_front ++ pick (ltb status high_bit) decimal hexadecimal

-- "Its signed code is the status, less 4,294,967,296 from 2,147,483,648 up."
unfoldable pub signed_code : ℕ → ℤ
signed_code status = pick (ltb status high_bit) (pos status) (pos status -ℤ pos 4294967296)

-- "Status text: only 4."
unfoldable pub status_outcome : ℕ → ℕ → Outcome (List ℕ)
unfolding status_text
status_outcome status room = refuse 4 (ltb room (length (status_text status))) (done (status_text status))
