-- A line is read back as the program and the arguments that it was written from. Assumes nothing.
use Rattle.std.specs.Prelude.{ℕ, ◌≡◌, refl, Bool, true, false, List, [], ◌∷◌, ◌++◌, map}
use Rattle.std.proofs.Common.{append_assoc}
use Rattle.rules.specs.Choice.{pick, flip, any}
use Rattle.rules.specs.Unit.{is_quote, quote}
use Rattle.rules.specs.Quoting.{form}
use Rattle.rules.specs.Record.{Argument, is_regular}
use Rattle.rules.specs.Building.{written, tail, line}
use Rattle.rules.specs.Reading.{between, later, argument0, behind0, arguments}
use Rattle.laws.specs.Choice.{apart}
use Rattle.laws.specs.FormRead.{EndOrBlank, nothing, blank, form_read}

-- the test that an argument is not a regular one
abbrev pub is_raw : Argument → Bool
is_raw a = flip (is_regular a.kind)

-- the contents of arguments
abbrev pub contents : List Argument → List (List ℕ)
contents args = map (λ a. a.content) args

behind : (rule : Bool → List ℕ → List ℕ) (force : Bool) (args : List Argument) → EndOrBlank (tail rule force args)
behind rule force [] = nothing
behind rule force (a ∷ args) = blank

regular_form : (rule : Bool → List ℕ → List ℕ) (force : Bool) (a : Argument) → is_raw a ≡ false → written rule force a ≡ rule force a.content
regular_form rule force a h = go (is_regular a.kind) h
  where
    go : (b : Bool) → flip b ≡ false → pick b (rule force a.content) a.content ≡ rule force a.content
    go true h = refl
    go false h = cc

tail_read : (force : Bool) (args : List Argument) → any is_raw args ≡ false → later between 0 [] (tail form force args) ≡ contents args
unfolding later
tail_read force [] h = refl
tail_read force (a ∷ args) h =
    let (e, h') = apart true (is_raw a) (any is_raw args) h in
    rw (regular_form form force a e, form_read force (behind form force args), tail_read force args h')

name_read : (p : List ℕ) → any is_quote p ≡ false → {rest : List ℕ} → EndOrBlank rest → argument0 true (p ++ quote ∷ rest) ≡ p
unfolding argument0
name_read [] h nothing = refl
name_read [] h blank = refl
name_read (x ∷ xs) h b = let (e, h') = apart true (is_quote x) (any is_quote xs) h in rw (e, name_read xs h' b)

after_read : (p : List ℕ) → any is_quote p ≡ false → {rest : List ℕ} → EndOrBlank rest → later between 0 [] (behind0 true (p ++ quote ∷ rest)) ≡ later between 0 [] rest
unfolding behind0 later
after_read [] h nothing = refl
after_read [] h blank = refl
after_read (x ∷ xs) h b = let (e, h') = apart true (is_quote x) (any is_quote xs) h in rw e (after_read xs h' b)

-- a line of a program without quote marks and of regular arguments is read as that program and those arguments, quotes forced or not
pub line_read : (force : Bool) (program : List ℕ) (args : List Argument) → any is_quote program ≡ false → any is_raw args ≡ false
    → arguments (line force program args) ≡ program ∷ contents args
unfolding arguments line
line_read force program args h g =
    let b = behind form force args in
    rw (append_assoc program (quote ∷ []) (tail form force args), name_read program h b, after_read program h b, tail_read force args g)
