-- The shapes of words, and the letters that stand for them. Assumes nothing.
use Rattle.std.specs.Prelude.{ℕ, ◌+◌, ◌-◌, min, true, false, List, eqb, ltb, length, get_or, take, drop, Option, Some, None}
use Rattle.rules.specs.Choice.{pick}
use Rattle.laws.specs.Scan.{leading, before}
use Rattle.fields.specs.Field.{Flat, follow, field_on}
use Rattle.fields.specs.declared.taking.Field.TheVariants as Field
use Rattle.words.specs.declared.shapes.Shape.{Shape}

-- the largest number of 32 bits
abbrev pub most32 : ℕ
most32 = 4294967295

-- `f` is a flag, 0 or 1; `n` a number of 32 bits; `w` one of 64; `t` a text; `a` an argument `K:TEXT`; `e` an entry `KEY:VALUE`, whose colons are `{3a}`
abbrev pub shape_of : ℕ → Option Shape
shape_of letter =
    pick (eqb letter 102) (Some (Shape.One (Field.Count 1)))
    (pick (eqb letter 110) (Some (Shape.One (Field.Count most32)))
    (pick (eqb letter 119) (Some (Shape.One Field.Wide))
    (pick (eqb letter 116) (Some (Shape.One (Field.Text true)))
    (pick (eqb letter 97) (Some (Shape.Two (Field.Count most32) (Field.Text true)))
    (pick (eqb letter 101) (Some (Shape.Two (Field.Text false) (Field.Text false))) None)))))

-- the shape of the word with an index: the last letter stands for all words from there on
unfoldable pub shape_at : List ℕ → ℕ → Option Shape
shape_at letters i = shape_of (get_or letters (min i (length letters - 1)) 0)

-- where a word's first colon stands
abbrev pub colon_in : List ℕ → ℕ
colon_in word = before (λ x. eqb x 58) word

-- what there is with one word more
unfoldable pub shape_on : Option Shape → Flat → List ℕ → Option Flat
unfolding field_on leading
shape_on (Some (Shape.One field)) flat word = field_on field flat word
shape_on (Some (Shape.Two front back)) flat word =
    let pair = follow (field_on front flat (take (colon_in word) word)) (λ next. field_on back next (drop (colon_in word + 1) word)) in
    pick (ltb (colon_in word) (length word)) pair None
shape_on None flat word = None
