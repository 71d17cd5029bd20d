-- Small examples that pin what is shown. Assumes nothing.
use Rattle.std.specs.Prelude.{◌≡◌, refl, [], ◌∷◌, map}
use Rattle.rules.specs.Unit.{units}
use Rattle.shown.specs.Shown.{shown}

-- A unit that can be seen is shown in UTF-8, any other as `{hex}`: a blank, a tab and NUL, braces, й, €, the blank that does not break, 😀, a
-- high surrogate before a letter, and a low one before a high one.
pub shown_so : map shown
    ((97 ∷ 32 ∷ 98 ∷ [])
    ∷ (9 ∷ 0 ∷ [])
    ∷ (123 ∷ 125 ∷ [])
    ∷ (1081 ∷ 8364 ∷ 160 ∷ [])
    ∷ (55357 ∷ 56832 ∷ [])
    ∷ (55357 ∷ 97 ∷ [])
    ∷ (56832 ∷ 55357 ∷ [])
    ∷ [])
    ≡ units "a b" ∷ units "{9}{0}" ∷ units "{7b}{7d}" ∷ (208 ∷ 185 ∷ 226 ∷ 130 ∷ 172 ∷ units "{a0}") ∷ (240 ∷ 159 ∷ 152 ∷ 128 ∷ []) ∷ units "{d83d}a"
    ∷ units "{de00}{d83d}" ∷ []
unfolding shown units
shown_so = refl
