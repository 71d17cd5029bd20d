-- UTF-8 and the UTF-16 units that it gives, from Unicode's tables of well-formed byte sequences (3-7) and of bits (3-6) and of surrogates (3-5).
-- Assumes nothing.
use Rattle.std.specs.Prelude.{ℕ, zero, suc, ◌+◌, ◌*◌, ◌-◌, ◌/◌, ◌%◌, ◌≡◌, Bool, List, [], ◌∷◌, ◌++◌, Option, None, Some, leb, ltb, length, get_or}
use Rattle.std.proofs.Common.{sym, ap, ◌∙◌}
use Rattle.std.proofs.lemmas.List.Edits.{sets}
use Rattle.rules.specs.Choice.{pick, either, both}
use Rattle.rules.specs.Unit.{within}
use Rattle.terminal.specs.declared.utf8.Lead.{Lead}
use Rattle.terminal.specs.declared.utf8.Scalar.{Scalar}
use Rattle.terminal.specs.declared.utf8.Taken.{Taken}

-- ---- one sequence

-- a row: how many bytes, and the range of the second
abbrev pub row_of : ℕ → ℕ → ℕ → Option Lead
row_of count least most = Some (record { count = count; least = least; most = most })

-- The table of well-formed byte sequences by the first byte. A third and a fourth byte are 128 to 191 in every row; a first byte in no row begins none.
unfoldable pub lead_of : ℕ → Option Lead
lead_of byte =
    pick (within 0 127 byte) (row_of 1 128 191)
    (pick (within 194 223 byte) (row_of 2 128 191)
    (pick (within 224 224 byte) (row_of 3 160 191)
    (pick (within 225 236 byte) (row_of 3 128 191)
    (pick (within 237 237 byte) (row_of 3 128 159)
    (pick (within 238 239 byte) (row_of 3 128 191)
    (pick (within 240 240 byte) (row_of 4 144 191)
    (pick (within 241 243 byte) (row_of 4 128 191)
    (pick (within 244 244 byte) (row_of 4 128 143)
    None))))))))

-- a third or fourth byte
abbrev pub is_tail : ℕ → Bool
is_tail byte = within 128 191 byte

-- of so many bytes the third and the fourth may stand there
unfoldable pub are_tails : ℕ → List ℕ → Bool
are_tails count bytes = either (ltb count 3) (both (is_tail (get_or bytes 2 0)) (either (ltb count 4) (is_tail (get_or bytes 3 0))))

-- the bytes begin with as many as the row asks for, each in its range
unfoldable pub is_whole : Lead → List ℕ → Bool
unfolding are_tails
is_whole row bytes =
    both (leb row.count (length bytes)) (either (ltb row.count 2) (both (within row.least row.most (get_or bytes 1 0)) (are_tails row.count bytes)))

-- the bits of a sequence of so many bytes: 7; 5 and 6; 4, 6 and 6; 3, 6, 6 and 6
unfoldable pub value_of : ℕ → List ℕ → ℕ
value_of count bytes =
    let a = get_or bytes 0 0 in
    let b = get_or bytes 1 0 % 64 in
    let c = get_or bytes 2 0 % 64 in
    let d = get_or bytes 3 0 % 64 in
    pick (ltb count 2) (a % 128)
    (pick (ltb count 3) (a % 32 * 64 + b) (pick (ltb count 4) ((a % 16 * 64 + b) * 64 + c) (((a % 8 * 64 + b) * 64 + c) * 64 + d)))

-- the character of a row that bytes begin with a whole sequence of
abbrev pub scalar_in_row : List ℕ → Option Lead → Option Scalar
scalar_in_row bytes None = None
scalar_in_row bytes (Some row) =
    let found : Scalar = record { value = value_of row.count bytes; bytes = row.count } in
    pick (is_whole row bytes) (Some found) None

-- the character that the bytes begin with, and how many of them are its; none where they begin with no well-formed sequence
unfoldable pub scalar_of : List ℕ → Option Scalar
unfolding lead_of is_whole value_of
scalar_of bytes = scalar_in_row bytes (lead_of (get_or bytes 0 0))

-- the units of a character: itself below 65,536, else a high surrogate with the upper ten bits of what it is above that and a low one with the lower ten
unfoldable pub units_of : ℕ → List ℕ
units_of value =
    let above = value - 65536 in
    pick (ltb value 65536) (value ∷ []) ((55296 + above / 1024) ∷ (56320 + above % 1024) ∷ [])

-- ---- a text

-- the character that stands next, where one does, and those behind its bytes
abbrev from_next : Option Scalar → (ℕ → List Scalar) → List Scalar
from_next None behind = []
from_next (Some next) behind = next ∷ behind (next.bytes - 1)

-- the characters of a text up to the first byte that begins none, where so many bytes in front are those of a character before
unfoldable pub scalars_from : ℕ → List ℕ → List Scalar
unfolding scalar_of
scalars_from passed [] = []
scalars_from (suc passed) (byte ∷ more) = scalars_from passed more
scalars_from zero (byte ∷ more) = from_next (scalar_of (byte ∷ more)) (λ (passed : ℕ). scalars_from passed more)

-- the characters of a text up to the first byte that begins none
abbrev pub scalars : List ℕ → List Scalar
scalars bytes = scalars_from 0 bytes

-- how many bytes characters have together
unfoldable pub bytes_of : List Scalar → ℕ
bytes_of [] = 0
bytes_of (s ∷ more) = s.bytes + bytes_of more

-- the units of characters one after another
unfoldable pub text_of : List Scalar → List ℕ
unfolding units_of
text_of [] = []
text_of (s ∷ more) = units_of s.value ++ text_of more

-- the index of the first byte that begins no well-formed sequence, or the length where there is none
unfoldable pub good_bytes : List ℕ → ℕ
unfolding scalars_from bytes_of
good_bytes bytes = bytes_of (scalars bytes)

-- the units of the bytes in front of that one
unfoldable pub good_units : List ℕ → List ℕ
unfolding scalars_from text_of
good_units bytes = text_of (scalars bytes)

-- a text is read: how far, how many units it gives, and that they stand at the front of what was lent, as far as there is room
pub record Decoded (bytes : List ℕ) (r : Taken) (before after : List ℕ) : Type 0 where
  pub reads : r.bytes ≡ good_bytes bytes
  pub counts : r.units ≡ length (good_units bytes)
  pub stores : after ≡ sets before 0 (good_units bytes)

abbrev taken : ℕ → ℕ → Taken
taken bytes units = record { bytes = bytes; units = units }

-- such a contract allows one answer and one content of what was lent
pub decoded_one : {bytes : List ℕ} {r r' : Taken} {before after after' : List ℕ} → Decoded bytes r before after → Decoded bytes r' before after' → (r ≡ r') × (after ≡ after')
decoded_one {bytes} {r} {r'} a b =
    let e : r.bytes ≡ r'.bytes = a.reads ∙ sym b.reads in
    let f : r.units ≡ r'.units = a.counts ∙ sym b.counts in
    (ap (λ (n : ℕ). taken n r.units) e ∙ ap (taken r'.bytes) f, a.stores ∙ sym b.stores)
