-- Small examples that pin what is read. Assumes nothing.
use Rattle.std.specs.Prelude.{◌≡◌, refl, None, Some, [], ◌∷◌, map}
use Rattle.rules.specs.Unit.{units}
use Rattle.laws.specs.Scan.{leading}
use Rattle.terminal.specs.Utf8.{good_bytes, good_units}
use Rattle.terminal.specs.Number.{number_of}
use Rattle.terminal.specs.Word.{key_length}

-- bytes and the units that they give: A, й, €, 😀, the last character of three bytes and the last of four
pub read_well : map good_units
    ((65 ∷ []) ∷ (208 ∷ 185 ∷ []) ∷ (226 ∷ 130 ∷ 172 ∷ []) ∷ (240 ∷ 159 ∷ 152 ∷ 128 ∷ []) ∷ (239 ∷ 191 ∷ 191 ∷ []) ∷ (244 ∷ 143 ∷ 191 ∷ 191 ∷ []) ∷ [])
    ≡ (65 ∷ []) ∷ (1081 ∷ []) ∷ (8364 ∷ []) ∷ (55357 ∷ 56832 ∷ []) ∷ (65535 ∷ []) ∷ (56319 ∷ 57343 ∷ []) ∷ []
unfolding good_units
read_well = refl

-- The first byte that begins no character. In turn: none; a lone tail; a character in two bytes that one holds; a character in three bytes that
-- two hold; a surrogate; a character in four bytes that three hold; one past the last; a cut sequence behind a letter; a byte that is in no row.
pub read_ill : map good_bytes
    ((65 ∷ 66 ∷ [])
    ∷ (65 ∷ 128 ∷ [])
    ∷ (192 ∷ 128 ∷ [])
    ∷ (224 ∷ 159 ∷ 191 ∷ [])
    ∷ (237 ∷ 160 ∷ 128 ∷ [])
    ∷ (240 ∷ 143 ∷ 191 ∷ 191 ∷ [])
    ∷ (244 ∷ 144 ∷ 128 ∷ 128 ∷ [])
    ∷ (65 ∷ 226 ∷ 130 ∷ [])
    ∷ (208 ∷ 185 ∷ 255 ∷ [])
    ∷ [])
    ≡ 2 ∷ 1 ∷ 0 ∷ 0 ∷ 0 ∷ 0 ∷ 0 ∷ 1 ∷ 2 ∷ []
unfolding good_bytes
read_ill = refl

-- numbers: the ends of the range, a 0 in front, one too large, none, and a sign
pub numbers_so : map number_of (map units ("0" ∷ "4294967295" ∷ "007" ∷ "4294967296" ∷ "" ∷ "-1" ∷ []))
    ≡ Some 0 ∷ Some 4294967295 ∷ Some 7 ∷ None ∷ None ∷ None ∷ []
unfolding number_of units
numbers_so = refl

-- how long keys are: a key, an empty value, a key that begins with `=`, a second `=`, and no `=` behind the first unit
pub keys_so : map key_length (map units ("A=1" ∷ "B=" ∷ "=C:=C:\\" ∷ "A=1=2" ∷ "=" ∷ [])) ≡ 1 ∷ 1 ∷ 3 ∷ 1 ∷ 1 ∷ []
unfolding key_length units leading
keys_so = refl
