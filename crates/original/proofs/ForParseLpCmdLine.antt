-- `parse_lp_cmd_line` reads the arguments of the rules. Assumes nothing.
use Rattle.std.specs.Prelude.{ℕ, zero, suc, ◌+◌, ◌/◌, ◌≤◌, ◌≡◌, Bool, ltb}
use native.Mathlib.Omega.{arith}
use Rattle.std.proofs.Common.{add-zero, sym, ◌∙◌}
use Rattle.std.proofs.Math.Path.{refl, ap}
use Rattle.std.proofs.Math.Bool.{true, false}
use mathlib.Core.List.{List, [], ◌∷◌, ◌++◌, append_assoc, append-nil}
use Rattle.std.proofs.Math.Option.{Option, none, some}
use Rattle.std.proofs.Math.ListN.{length}
use Rattle.rules.specs.Choice.{pick, either, flip, is_empty}
use Rattle.rules.specs.Unit.{is_quote, is_backslash, is_blank, quote, backslash}
use Rattle.rules.specs.Outcome.{done, refuse}
use Rattle.rules.specs.Quoting.{slashes}
use Rattle.rules.specs.Reading.{line_of, argument0, behind0, Mode, between, outside, inside, closing, taking, odd, later, arguments, arguments_read, units_read, read_limit, places_of, joined, reading}
use Rattle.laws.specs.Kind.{Kind, slash, marked, other, kind}
use Rattle.original.specs.Language.{◌==Some◌, ControlFlow, go_on}
use Rattle.original.specs.Shims.{peek, next, w_str_units, advance_while}
use Rattle.original.specs.ParseLpCmdLine.{for_w, Locals, match_w, while_w, parse_lp_cmd_line_by, parse_lp_cmd_line}
use Rattle.original.specs.Domain.{gives, port_says, in_domain}
use Rattle.original.specs.Laws.{both_false}

-- ---- runs that are passed

-- nothing is added by passing
pub left_short : (p : ℕ → Bool) (xs : List ℕ) → length (advance_while p xs).1 ≤ length xs
unfolding advance_while
left_short p [] = omega arith
left_short p (x ∷ xs) = go (p x) (left_short p xs)
  where
    go : (b : Bool) → length (advance_while p xs).1 ≤ length xs
        → length (pick {A = ℕ × List ℕ} b ((advance_while p xs).0 + 1, (advance_while p xs).1) (0, x ∷ xs)).1 ≤ suc (length xs)
    go true h = omega arith
    go false h = omega arith

-- a reader between two arguments skips blanks; behind them it stands as one who has begun
abbrev Skips : List ℕ → Type 0
Skips xs = later between 0 [] xs ≡ later outside 0 [] (advance_while is_blank xs).1

skips_step : {x : ℕ} (xs : List ℕ) → Kind x → Skips xs → Skips (x ∷ xs)
unfolding later advance_while
skips_step xs slash ih = refl
skips_step xs marked ih = refl
skips_step xs (other {x} p r) ih = go (is_blank x) refl
  where
    go : (b : Bool) → is_blank x ≡ b → Skips (x ∷ xs)
    go true e = simp (p, r, e) ih
    go false e = simp (p, r, e)

skips : (xs : List ℕ) → Skips xs
unfolding later advance_while
skips [] = refl
skips (x ∷ xs) = skips_step xs (kind x) (skips xs)

-- what a run of backslashes leaves does not begin with one
run_stopped : (xs : List ℕ) → peek (advance_while is_backslash xs).1 ==Some 92 ≡ false
unfolding advance_while
run_stopped [] = refl
run_stopped (x ∷ xs) = go (is_backslash x) refl (run_stopped xs)
  where
    go : (b : Bool) → is_backslash x ≡ b → peek (advance_while is_backslash xs).1 ==Some 92 ≡ false
        → peek (pick {A = ℕ × List ℕ} b ((advance_while is_backslash xs).0 + 1, (advance_while is_backslash xs).1) (0, x ∷ xs)).1 ==Some 92 ≡ false
    go true e h = h
    go false e h = e

-- a run of backslashes is counted
run_counted : (m : Mode) → taking m ≡ m → (k : ℕ) (cur xs : List ℕ)
    → later m k cur xs ≡ later m (k + (advance_while is_backslash xs).0) cur (advance_while is_backslash xs).1
unfolding later advance_while
run_counted m t k cur [] = rw add-zero
run_counted m t k cur (x ∷ xs) = go (is_backslash x) refl (run_counted m t (k + 1) cur xs)
  where
    go : (b : Bool) → is_backslash x ≡ b → later m (k + 1) cur xs ≡ later m (k + 1 + (advance_while is_backslash xs).0) cur (advance_while is_backslash xs).1
        → later m k cur (x ∷ xs) ≡ later m (k + (advance_while is_backslash (x ∷ xs)).0) cur (advance_while is_backslash (x ∷ xs)).1
    go true e ih =
        let d : k + 1 + (advance_while is_backslash xs).0 ≡ k + ((advance_while is_backslash xs).0 + 1) = omega arith in
        simp (e, t) (ih ∙ rw d)
    go false e ih = simp (e, add-zero)

-- ---- backslashes that are literal

-- a run not followed by a quote mark or a backslash is literal
settled : (m : Mode) (k x : ℕ) (cur xs : List ℕ) → is_backslash x ≡ false → is_quote x ≡ false
    → later m k cur (x ∷ xs) ≡ later m 0 (cur ++ slashes k) (x ∷ xs)
unfolding later
settled m k x cur xs p r = simp (p, r, append-nil)

-- behind a mark that was met inside quotes, any unit but a mark finds them closed
closes : (x : ℕ) (cur xs : List ℕ) → is_backslash x ≡ false → is_quote x ≡ false → later closing 0 cur (x ∷ xs) ≡ later outside 0 cur (x ∷ xs)
unfolding later
closes x cur xs p r = simp (p, r)

-- ---- one turn of the loop

-- where a reader stands that is in quotes, or is not. Between two arguments the Rust has passed the blanks, so it stands as one who has begun.
abbrev mode_of : Bool → Mode
mode_of true = inside
mode_of false = outside

taking_mode : (q : Bool) → taking (mode_of q) ≡ mode_of q
unfolding taking
taking_mode true = refl
taking_mode false = refl

-- the test behind the loop
abbrev finish : Locals → List (List ℕ)
finish (ret-val, cur, in-quotes, code-units) = pick (either (flip (is_empty cur)) in-quotes) (ret-val ++ cur ∷ []) ret-val

-- at the end of the line
finished : (q : Bool) (ret-val : List (List ℕ)) (cur : List ℕ) → finish (ret-val, cur, q, []) ≡ ret-val ++ later (mode_of q) 0 cur []
unfolding later
finished true ret-val [] = refl
finished true ret-val (x ∷ cur) = rw append-nil
finished false ret-val [] = rw append-nil
finished false ret-val (x ∷ cur) = ap (λ l. ret-val ++ (x ∷ l) ∷ []) (sym (append-nil cur))

-- what the Rust makes of k backslashes: what is collected, and what is left
abbrev escapes : ℕ → List ℕ → List ℕ → List ℕ × List ℕ
escapes k cur left =
    pick (peek left ==Some quote)
    (pick {A = List ℕ × List ℕ} (odd k) (cur ++ slashes (k / 2) ++ quote ∷ [], next left) (cur ++ slashes (k / 2), left))
    (cur ++ slashes k, left)

-- A loop that does right by every rest of at most so many units does right by one unit more.
module _ (more : List (List ℕ) → List ℕ → Bool → List ℕ → Locals) (most : ℕ)
    (does : (ret-val : List (List ℕ)) (cur : List ℕ) (q : Bool) (rest : List ℕ) → length rest ≤ most
    → finish (more ret-val cur q rest) ≡ ret-val ++ later (mode_of q) 0 cur rest) where
  -- behind a run of k backslashes stands a quote mark
  before_mark : (q : Bool) (k : ℕ) (ret-val : List (List ℕ)) (cur left : List ℕ) → length (quote ∷ left) ≤ most
      → finish (more ret-val (escapes k cur (quote ∷ left)).0 q (escapes k cur (quote ∷ left)).1) ≡ ret-val ++ later (mode_of q) k cur (quote ∷ left)
  unfolding later
  before_mark q k ret-val cur left l = go (odd k) refl
    where
      go : (b : Bool) → odd k ≡ b
          → finish (more ret-val (escapes k cur (quote ∷ left)).0 q (escapes k cur (quote ∷ left)).1) ≡ ret-val ++ later (mode_of q) k cur (quote ∷ left)
      go true e = simp (e, taking_mode q) (does ret-val (cur ++ slashes (k / 2) ++ quote ∷ []) q left (omega arith))
      go false e = simp e (does ret-val (cur ++ slashes (k / 2)) q (quote ∷ left) l ∙ rw append-nil)

  -- behind it stands no quote mark
  no_mark : (q : Bool) (k x : ℕ) (ret-val : List (List ℕ)) (cur left : List ℕ)
      → is_backslash x ≡ false → is_quote x ≡ false → length (x ∷ left) ≤ most
      → finish (more ret-val (escapes k cur (x ∷ left)).0 q (escapes k cur (x ∷ left)).1) ≡ ret-val ++ later (mode_of q) k cur (x ∷ left)
  no_mark q k x ret-val cur left p r l =
      rw (r, settled (mode_of q) k x cur left p r) (does ret-val (cur ++ slashes k) q (x ∷ left) l)

  -- behind a run of k backslashes
  behind_run : (q : Bool) (k : ℕ) (ret-val : List (List ℕ)) (cur left : List ℕ) → peek left ==Some 92 ≡ false → length left ≤ most
      → finish (more ret-val (escapes k cur left).0 q (escapes k cur left).1) ≡ ret-val ++ later (mode_of q) k cur left
  unfolding later
  behind_run q k ret-val cur [] h l = does ret-val (cur ++ slashes k) q [] l ∙ rw append-nil
  behind_run q k ret-val cur (x ∷ left) h l = go (kind x) h l
    where
      go : {x : ℕ} → Kind x → peek (x ∷ left) ==Some 92 ≡ false → length (x ∷ left) ≤ most
          → finish (more ret-val (escapes k cur (x ∷ left)).0 q (escapes k cur (x ∷ left)).1) ≡ ret-val ++ later (mode_of q) k cur (x ∷ left)
      go slash h l = cc
      go marked h l = before_mark q k ret-val cur left l
      go (other {x} p r) h l = no_mark q k x ret-val cur left p r l

  -- the loop after a turn
  abbrev on : ControlFlow Locals → Locals
  on turn = go_on turn (λ (ret-val, cur, in-quotes, code-units). more ret-val cur in-quotes code-units) (λ locals. locals)

  -- the turn on a unit, and the loop behind it, read what the rules read from that unit on
  abbrev Turns : ℕ → List ℕ → Type 0
  Turns w rest =
      (q : Bool) (ret-val : List (List ℕ)) (cur : List ℕ) → finish (on (match_w ret-val cur q w rest)) ≡ ret-val ++ later (mode_of q) 0 cur (w ∷ rest)

  slash_turn : (rest : List ℕ) → length rest ≤ most → Turns backslash rest
  unfolding match_w later
  slash_turn rest l q ret-val cur =
      let count = (advance_while is_backslash rest).0 in
      let left = (advance_while is_backslash rest).1 in
      let e : 1 + count ≡ count + 1 = omega arith in
      behind_run q (count + 1) ret-val cur left (run_stopped rest) (omega (arith, left_short is_backslash rest))
      ∙ rw (taking_mode q, run_counted (mode_of q) (taking_mode q) 1 cur rest, e)

  -- a quote mark met in quotes: a second one follows, another unit, or the end
  mark_inside : (rest : List ℕ) → length rest ≤ most → (ret-val : List (List ℕ)) (cur : List ℕ)
      → finish (on (match_w ret-val cur true quote rest)) ≡ ret-val ++ later inside 0 cur (quote ∷ rest)
  unfolding match_w later
  mark_inside [] l ret-val cur = finished true ret-val cur ∙ simp append-nil
  mark_inside (x ∷ rest) l ret-val cur = go (kind x) l
    where
      go : {x : ℕ} → Kind x → length (x ∷ rest) ≤ most
          → finish (on (match_w ret-val cur true quote (x ∷ rest))) ≡ ret-val ++ later inside 0 cur (quote ∷ x ∷ rest)
      go slash l = does ret-val cur false (92 ∷ rest) l ∙ rw append-nil
      go marked l = does ret-val (cur ++ quote ∷ []) true rest (omega arith) ∙ simp append-nil
      go (other {x} p r) l =
          let e : on (match_w ret-val cur true quote (x ∷ rest)) ≡ more ret-val cur false (x ∷ rest) = simp r in
          let d : later inside 0 cur (quote ∷ x ∷ rest) ≡ later outside 0 cur (x ∷ rest) =
          closes x (cur ++ []) rest p r ∙ ap (λ c. later outside 0 c (x ∷ rest)) (append-nil cur) in
          ap finish e ∙ (does ret-val cur false (x ∷ rest) l ∙ ap (λ args. ret-val ++ args) (sym d))

  mark_turn : (rest : List ℕ) → length rest ≤ most → Turns quote rest
  unfolding match_w later
  mark_turn rest l true ret-val cur = mark_inside rest l ret-val cur
  mark_turn rest l false ret-val cur = does ret-val cur true rest l ∙ rw append-nil

  other_turn : (w : ℕ) → is_backslash w ≡ false → is_quote w ≡ false → (rest : List ℕ) → length rest ≤ most → Turns w rest
  unfolding match_w later
  other_turn w p r rest l q ret-val cur = go (is_blank w) refl q
    where
      go : (b : Bool) → is_blank w ≡ b → (q : Bool) → finish (on (match_w ret-val cur q w rest)) ≡ ret-val ++ later (mode_of q) 0 cur (w ∷ rest)
      go true e true = simp (e, p, r, append-nil) (does ret-val (cur ++ w ∷ []) true rest l)
      go true e false =
          simp (e, p, r, append-nil)
          (does (ret-val ++ cur ∷ []) [] false (advance_while is_blank rest).1 (omega (arith, left_short is_blank rest)) ∙ rw (skips rest) (simp append_assoc))
      go false e true = simp (e, p, r, append-nil) (does ret-val (cur ++ w ∷ []) true rest l)
      go false e false = simp (e, p, r, append-nil) (does ret-val (cur ++ w ∷ []) false rest l)

  -- a turn does right by its unit
  turn_same : {w : ℕ} (rest : List ℕ) → Kind w → length rest ≤ most → Turns w rest
  turn_same rest slash l = slash_turn rest l
  turn_same rest marked l = mark_turn rest l
  turn_same rest (other {x} p r) l = other_turn x p r rest l

-- ---- the loops

-- the loop reads the later arguments, and as many turns as there are units are enough
pub while_same : (turns : ℕ) (ret-val : List (List ℕ)) (cur : List ℕ) (q : Bool) (rest : List ℕ) → length rest ≤ turns
    → finish (while_w turns ret-val cur q rest) ≡ ret-val ++ later (mode_of q) 0 cur rest
unfolding while_w
while_same zero ret-val cur q [] l = finished q ret-val cur
while_same zero ret-val cur q (w ∷ rest) l = absurd (omega arith)
while_same (suc turns) ret-val cur q [] l = finished q ret-val cur
while_same (suc turns) ret-val cur q (w ∷ rest) l = turn_same (while_w turns) turns (while_same turns) rest (kind w) (omega arith) q ret-val cur

-- the name of the executable, and what is behind it
abbrev NameSame : Bool → List ℕ → List ℕ → Type 0
NameSame q cur xs = ((for_w cur q xs).0 ≡ cur ++ argument0 q xs) × ((for_w cur q xs).2 ≡ behind0 q xs)

named_step : (x : ℕ) (cur xs : List ℕ) (a b : Bool) → is_quote x ≡ a → is_blank x ≡ b → (q : Bool)
    → NameSame (flip q) cur xs → NameSame q (cur ++ x ∷ []) xs → NameSame q cur (x ∷ xs)
unfolding for_w argument0 behind0
named_step x cur xs true b e d q toggled pushed = (simp e toggled.0, simp e toggled.1)
named_step x cur xs false true e d true toggled pushed = (simp (e, d) (pushed.0 ∙ simp append_assoc), simp (e, d) pushed.1)
named_step x cur xs false true e d false toggled pushed = (simp (e, d, append-nil), simp (e, d))
named_step x cur xs false false e d q toggled pushed = (simp (e, d, both_false) (pushed.0 ∙ simp append_assoc), simp (e, d, both_false) pushed.1)

name_same : (cur : List ℕ) (q : Bool) (xs : List ℕ) → NameSame q cur xs
unfolding for_w argument0 behind0
name_same cur q [] = (rw append-nil, refl)
name_same cur q (x ∷ xs) = named_step x cur xs (is_quote x) (is_blank x) refl refl q (name_same cur (flip q) xs) (name_same (cur ++ x ∷ []) q xs)

-- `WStrUnits` is the line
units_same : (lent : List ℕ) → w_str_units lent ≡ line_of lent
unfolding w_str_units line_of
units_same [] = refl
units_same (x ∷ xs) = rw (units_same xs)

-- ---- the whole

-- a line that is not empty
line_listed : (x : ℕ) (xs exe-name : List ℕ) → parse_lp_cmd_line (some (x ∷ xs)) exe-name ≡ arguments (x ∷ xs)
unfolding parse_lp_cmd_line arguments
line_listed x xs exe-name =
    let code-units = x ∷ xs in
    let (n, b) = name_same [] false code-units in
    let left = (advance_while is_blank (behind0 false code-units)).1 in
    rw (n, b, skips (behind0 false code-units)) (while_same (length left) (argument0 false code-units ∷ []) [] false left (omega arith))

-- On every line: the arguments of the rules, or the name of the executable where `peek` finds nothing.
pub parse_lp_cmd_line_is : (line exe-name : List ℕ) → parse_lp_cmd_line (some line) exe-name ≡ pick (is_empty line) (exe-name ∷ []) (arguments line)
unfolding parse_lp_cmd_line
parse_lp_cmd_line_is [] exe-name = refl
parse_lp_cmd_line_is (x ∷ xs) exe-name = line_listed x xs exe-name

-- An empty line, where `peek` finds nothing, is read as the name of the executable.
pub parse_empty : (exe-name : List ℕ) → parse_lp_cmd_line (some []) exe-name ≡ exe-name ∷ []
unfolding parse_lp_cmd_line
parse_empty exe-name = refl

-- `unwrap` is never reached where there is none: whatever stood for a panic, no list of arguments would be another.
pub unwrap_unreached : (panic : List ℕ) (lp-cmd-line : Option (List ℕ)) (exe-name : List ℕ)
    → parse_lp_cmd_line_by panic lp-cmd-line exe-name ≡ parse_lp_cmd_line lp-cmd-line exe-name
unfolding parse_lp_cmd_line
unwrap_unreached panic none exe-name = refl
unwrap_unreached panic (some line) exe-name = refl

-- A null pointer is read as an empty line is.
pub parse_null : (exe-name : List ℕ) → parse_lp_cmd_line none exe-name ≡ arguments_read exe-name []
unfolding parse_lp_cmd_line arguments_read
parse_null exe-name = refl

-- On the oracle's domain the Rust and the port say the same.
pub parse_lp_cmd_line_same : (executable lent : List ℕ) (room numbers : ℕ)
    → in_domain (reading executable lent room numbers) ≡ true
    → gives (parse_lp_cmd_line (some (w_str_units lent)) executable) ≡ port_says (reading executable lent room numbers)
unfolding reading arguments_read
parse_lp_cmd_line_same executable lent room numbers h =
    let args = arguments_read executable lent in
    go (ltb read_limit (length (units_read executable lent))) (ltb (places_of numbers) (length args)) (ltb room (length (joined args))) h
    (rw (units_same lent) (parse_lp_cmd_line_is (line_of lent) executable))
  where
    go : (a b c : Bool) → in_domain (refuse 2 a (refuse 3 b (refuse 4 c (done (arguments_read executable lent))))) ≡ true
        → parse_lp_cmd_line (some (w_str_units lent)) executable ≡ arguments_read executable lent
        → gives (parse_lp_cmd_line (some (w_str_units lent)) executable) ≡ port_says (refuse 2 a (refuse 3 b (refuse 4 c (done (arguments_read executable lent)))))
    go true b c h e = cc
    go false true c h e = cc
    go false false true h e = cc
    go false false false h e = ap gives e
