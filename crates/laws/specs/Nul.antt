-- An ordinary line holds no NUL where its program and its arguments hold none. Assumes nothing.
use Rattle.std.specs.Prelude.{ℕ, zero, suc, ◌+◌, ◌*◌, ◌≡◌, refl, Bool, true, false, List, [], ◌∷◌}
use Rattle.rules.specs.Choice.{pick, any, is_empty}
use Rattle.rules.specs.Unit.{is_nul, quote}
use Rattle.rules.specs.Quoting.{slashes, escaped, needs_quotes, enclosed, form}
use Rattle.rules.specs.Record.{Argument, is_regular}
use Rattle.rules.specs.Reading.{line_of, arguments, arguments_read, units_read}
use Rattle.rules.specs.Building.{written, tail, line, nul_finding}
use Rattle.laws.specs.Choice.{apart, choose, joint}
use Rattle.laws.specs.Kind.{Kind, slash, marked, other, kind}
use Rattle.laws.specs.Fault.{Sound, passed_once}

-- units without a NUL
abbrev pub Clean : List ℕ → Type 0
Clean xs = any is_nul xs ≡ false

-- such units are a line to their end
pub to_the_end : (xs : List ℕ) → Clean xs → line_of xs ≡ xs
unfolding line_of
to_the_end [] h = refl
to_the_end (x ∷ xs) h = let (e, h') = apart true (is_nul x) (any is_nul xs) h in rw (e, to_the_end xs h')

-- backslashes are no NUL
pub slashes_clean : (k : ℕ) → Clean (slashes k)
slashes_clean zero = refl
slashes_clean (suc k) = slashes_clean k

-- escaped behind any backslashes, the units have no NUL where they had none
abbrev Keeps : Bool → List ℕ → Type 0
Keeps q xs = Clean xs → (k : ℕ) → Clean (escaped q k xs)

escaped_step : (q : Bool) {x : ℕ} (xs : List ℕ) → Kind x → Keeps q xs → Keeps q (x ∷ xs)
unfolding escaped
escaped_step q xs slash ih h k = ih h (k + 1)
escaped_step q xs marked ih h k = joint is_nul (slashes (2 * k + 1)) _ (slashes_clean (2 * k + 1)) (ih h 0)
escaped_step q xs (other {x} p r) ih h k =
    let (e, h') = apart true (is_nul x) (any is_nul xs) h in
    simp (p, r) (joint is_nul (slashes k) _ (slashes_clean k) (rw e (ih h' 0)))

escaped_clean : (q : Bool) (xs : List ℕ) → Keeps q xs
unfolding escaped
escaped_clean q [] = λ h k. slashes_clean (pick q (2 * k) k)
escaped_clean q (x ∷ xs) = escaped_step q xs (kind x) (escaped_clean q xs)

-- the form of an argument without a NUL has none
pub form_clean : (force : Bool) (xs : List ℕ) → Clean xs → Clean (form force xs)
unfolding form
form_clean force xs h =
    choose Clean (needs_quotes force xs) (joint is_nul (escaped true 0 xs) (quote ∷ []) (escaped_clean true xs h 0) refl) (escaped_clean false xs h 0)

argument_clean : (force : Bool) (a : Argument) → Clean a.content → Clean (written form force a)
argument_clean force a h = choose Clean (is_regular a.kind) (form_clean force a.content h) h

tail_clean : (force : Bool) (args : List Argument) → Sound nul_finding args → Clean (tail form force args)
tail_clean force [] s = refl
tail_clean force (a ∷ args) s =
    joint is_nul (written form force a) _ (argument_clean force a (passed_once 5 (any is_nul a.content) s.0)) (tail_clean force args s.1)

-- with no NUL in the program and none in an argument, raw ones too, the line holds none
pub line_clean : (force : Bool) (program : List ℕ) (args : List Argument) → Clean program → Sound nul_finding args → Clean (line force program args)
unfolding line
line_clean force program args h s = joint is_nul (enclosed program) _ (joint is_nul program (quote ∷ []) h refl) (tail_clean force args s)

-- no line is empty
pub line_some : (force : Bool) (program : List ℕ) (args : List Argument) → is_empty (line force program args) ≡ false
unfolding line
line_some force program args = refl

-- ---- such a line, lent to the reader

module _ (executable xs : List ℕ) (some : is_empty xs ≡ false) (clean : Clean xs) where
  -- the limit counts its units
  pub whole_units : units_read executable xs ≡ xs
  unfolding units_read
  whole_units = rw (to_the_end xs clean, some)

  -- its arguments are read
  pub whole_arguments : arguments_read executable xs ≡ arguments xs
  unfolding arguments_read
  whole_arguments = rw (to_the_end xs clean, some)
