-- How units are shown at a terminal: characters that can be seen as UTF-8, every other unit as `{hex}`. Assumes nothing.
use Rattle.std.specs.Prelude.{ℕ, ◌+◌, ◌*◌, ◌-◌, ◌/◌, ◌%◌, min, ◌≡◌, Bool, List, [], ◌∷◌, ◌++◌, ltb, length}
use Rattle.std.specs.List.{list_any}
use Rattle.std.proofs.Common.{sym, ◌∙◌}
use Rattle.std.proofs.lemmas.List.Edits.{sets}
use Rattle.rules.specs.Choice.{pick, both}
use Rattle.rules.specs.Unit.{within}
use Rattle.octets.specs.Braced.{braced}

-- ---- what is hidden

-- Units that stand for nothing that can be seen, as ranges, least and most: controls; the braces, which escapes need; delete, controls
-- and the blank that does not break; the soft hyphen; joiners, fillers and marks of direction; blanks of other widths; surrogates that have no
-- partner and the private area; selectors of variants; the mark of byte order; what is no character.
unfoldable pub hidden : List (ℕ × ℕ)
hidden =
    (0, 31) ∷ (123, 123) ∷ (125, 125) ∷ (127, 160) ∷ (173, 173) ∷ (847, 847) ∷ (1564, 1564) ∷ (4447, 4448) ∷ (5760, 5760) ∷ (6068, 6069) ∷ (6155, 6159)
    ∷ (8192, 8207) ∷ (8232, 8239) ∷ (8287, 8303) ∷ (10240, 10240) ∷ (12288, 12288) ∷ (12644, 12644) ∷ (55296, 63743) ∷ (65024, 65039) ∷ (65279, 65279)
    ∷ (65440, 65440) ∷ (65520, 65535) ∷ []

-- the number is in one of the ranges
abbrev pub in_ranges : List (ℕ × ℕ) → ℕ → Bool
in_ranges ranges x = list_any (λ (r : ℕ × ℕ). within r.0 r.1 x) ranges

-- the unit alone cannot be seen
unfoldable pub is_hidden : ℕ → Bool
unfolding hidden
is_hidden x = in_ranges hidden x

-- A high and a low surrogate whose character can be seen. The characters of the planes 14 to 16, high surrogates 56128 and up, are tags and
-- private ones.
abbrev pub is_pair : ℕ → ℕ → Bool
is_pair x y = both (within 55296 56127 x) (within 56320 57343 y)

-- ---- what is shown

-- the bytes of a character in UTF-8
unfoldable pub utf8 : ℕ → List ℕ
utf8 v =
    pick (ltb v 128) (v ∷ [])
    (pick (ltb v 2048) ((192 + v / 64) ∷ (128 + v % 64) ∷ [])
    (pick (ltb v 65536)
    ((224 + v / 4096) ∷ (128 + v / 64 % 64) ∷ (128 + v % 64) ∷ [])
    ((240 + v / 262144) ∷ (128 + v / 4096 % 64) ∷ (128 + v / 64 % 64) ∷ (128 + v % 64) ∷ [])))

-- a unit that has no partner
unfoldable pub single : ℕ → List ℕ
unfolding is_hidden utf8 braced
single x = pick (is_hidden x) (braced x) (utf8 x)

-- the character of a high and a low surrogate
abbrev pub joined : ℕ → ℕ → ℕ
joined x y = 65536 + (x - 55296) * 1024 + (y - 56320)

-- units as they are shown
unfoldable pub shown : List ℕ → List ℕ
unfolding single utf8
shown [] = []
shown (x ∷ []) = single x
shown (x ∷ y ∷ more) =
    let paired = utf8 (joined x y) ++ shown more in
    let alone = single x ++ shown (y ∷ more) in
    pick (is_pair x y) paired alone

-- ---- contracts

-- Bytes stand at the front of what was lent, as far as there is room. The count is theirs; where they have no room it is one more than there is.
pub record Clipped (whole : List ℕ) (count : ℕ) (before after : List ℕ) : Type 0 where
  pub counts : count ≡ min (length whole) (length before + 1)
  pub stores : after ≡ sets before 0 whole

-- such a contract allows one count and one content of the lent bytes
pub clipped_one : {whole : List ℕ} {count count' : ℕ} {before after after' : List ℕ}
    → Clipped whole count before after → Clipped whole count' before after' → (count ≡ count') × (after ≡ after')
clipped_one a b = (a.counts ∙ sym b.counts, a.stores ∙ sym b.stores)
