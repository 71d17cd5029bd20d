-- Reading a line by the C run-time rules. Assumes nothing.
use Rattle.std.specs.Prelude.{ℕ, ◌+◌, ◌*◌, ◌/◌, ◌%◌, Bool, true, false, List, [], ◌∷◌, ◌++◌, eqb, ltb, length, get_or}
use Rattle.rules.specs.Choice.{pick, both, flip, is_empty}
use Rattle.rules.specs.Unit.{is_nul, is_quote, is_backslash, is_blank, quote}
use Rattle.rules.specs.Record.{part, exceeds}
use Rattle.rules.specs.Quoting.{slashes}
use Rattle.rules.specs.Outcome.{Outcome, done, refuse}

-- the most units of a line that is read: "a line to be read has more than 32,767 units"
unfoldable pub read_limit : ℕ
read_limit = 32767

-- "The line is the lent units up to the first NUL or the end."
unfoldable pub line_of : List ℕ → List ℕ
line_of [] = []
line_of (x ∷ xs) = let kept = x ∷ line_of xs in pick (is_nul x) [] kept

-- ---- argument 0

-- Argument 0, where q says whether quoted mode is on: "a quote toggles quoted mode and is dropped; a blank outside quotes ends it; every other
-- unit is kept, backslashes too."
unfoldable pub argument0 : Bool → List ℕ → List ℕ
argument0 q [] = []
argument0 q (x ∷ xs) =
    let toggled = argument0 (flip q) xs in
    let kept = x ∷ argument0 q xs in
    let plain = pick (both (flip q) (is_blank x)) [] kept in
    pick (is_quote x) toggled plain

-- the units behind argument 0 and the blank that ends it
unfoldable pub behind0 : Bool → List ℕ → List ℕ
behind0 q [] = []
behind0 q (x ∷ xs) =
    let toggled = behind0 (flip q) xs in
    let kept = behind0 q xs in
    let plain = pick (both (flip q) (is_blank x)) xs kept in
    pick (is_quote x) toggled plain

-- ---- later arguments

-- Where a reader of later arguments stands: between two of them, where blanks are skipped; in one, outside or inside quotes; or just behind a
-- quote mark met inside quotes. The last mode, `closing`, is there because the rules are read here one unit at a time, and it takes the next
-- one to tell what such a mark does: "Inside, a quote followed by a quote gives one literal quote; followed by another unit it closes; as the
-- last unit of the line it ends the reading with quoted mode still set."
pub data Mode : Type 0 where
  between outside inside closing : Mode

-- the mode in which a unit that is no quote mark is taken: it begins an argument, and behind a mark met inside quotes it finds them closed
unfoldable pub taking : Mode → Mode
taking between = outside
taking outside = outside
taking inside = inside
taking closing = outside

-- a blank here stands outside quotes
unfoldable pub outside_quotes : Mode → Bool
outside_quotes between = true
outside_quotes outside = true
outside_quotes inside = false
outside_quotes closing = true

-- "a blank outside quotes ends the argument, and the blanks after it are skipped". A blank inside quotes ends nothing, so the clause of
-- `inside` is never reached.
unfoldable pub ends : Mode → List ℕ → List (List ℕ) → List (List ℕ)
ends between cur more = more
ends outside cur more = cur ∷ more
ends inside cur more = cur ∷ more
ends closing cur more = cur ∷ more

-- A quote mark that is handled as a quote: "A quote outside quotes opens quoted mode", and so does the first of an argument; inside it may
-- close; behind another mark that was met inside quotes it is the second of two that give one literal quote.
unfoldable pub mark : Mode → List ℕ → (Mode → List ℕ → List (List ℕ)) → List (List ℕ)
mark between cur next = next inside cur
mark outside cur next = next inside cur
mark inside cur next = next closing cur
mark closing cur next = next inside (cur ++ quote ∷ [])

-- "if k is odd"
abbrev pub odd : ℕ → Bool
odd k = eqb (k % 2) 1

-- "At the end the current later argument is added if it isn't empty or quoted mode is set." Between arguments there is none. A reader is
-- outside quotes only behind a unit of the argument, so there it is never empty: the clause that says so is never reached from a line's start.
unfoldable pub last : Mode → List ℕ → List (List ℕ)
last between cur = []
last outside [] = []
last outside (x ∷ xs) = (x ∷ xs) ∷ []
last inside cur = cur ∷ []
last closing cur = cur ∷ []

-- The later arguments, from a mode, with k backslashes just passed behind the units cur of the current argument.
-- "A run of k backslashes followed by a quote gives k/2 backslashes, rounded down; if k is odd the quote is literal and consumed, else it is
-- handled as a quote. A run not followed by a quote is literal."
unfoldable pub later : Mode → ℕ → List ℕ → List ℕ → List (List ℕ)
unfolding taking outside_quotes ends mark last
later m k cur [] = last m (cur ++ slashes k)
later m k cur (x ∷ xs) =
    let counted = later (taking m) (k + 1) cur xs in
    let literal = later (taking m) 0 (cur ++ slashes (k / 2) ++ quote ∷ []) xs in
    let handled = mark m (cur ++ slashes (k / 2)) (λ m' cur'. later m' 0 cur' xs) in
    let quoting = pick (odd k) literal handled in
    let ended = ends m (cur ++ slashes k) (later between 0 [] xs) in
    let kept = later (taking m) 0 (cur ++ slashes k ++ x ∷ []) xs in
    let plain = pick (both (outside_quotes m) (is_blank x)) ended kept in
    let other = pick (is_quote x) quoting plain in
    pick (is_backslash x) counted other

-- The arguments of a line that is not empty: argument 0, "always given, even empty"; "then blanks are skipped", "quoted mode is off after it",
-- and the later arguments follow.
unfoldable pub arguments : List ℕ → List (List ℕ)
unfolding argument0 behind0 later
arguments line = argument0 false line ∷ later between 0 [] (behind0 false line)

-- ---- the whole outcome

-- the arguments: "If it is empty, the one argument is the caller's executable name, taken as it is."
unfoldable pub arguments_read : List ℕ → List ℕ → List (List ℕ)
unfolding line_of arguments
arguments_read executable lent =
    let line = line_of lent in
    let listed = arguments line in
    pick (is_empty line) (executable ∷ []) listed

-- the units that the limit counts: those of the line or, where it is empty, of the executable name
unfoldable pub units_read : List ℕ → List ℕ → List ℕ
unfolding line_of
units_read executable lent = let line = line_of lent in pick (is_empty line) executable line

-- the texts one after another
abbrev pub joined : List (List ℕ) → List ℕ
joined [] = []
joined (a ∷ more) = a ++ joined more

-- start and length of each text, the first of them starting at the number given
abbrev pub spans_from : ℕ → List (List ℕ) → List ℕ
spans_from start [] = []
spans_from start (a ∷ more) = start ∷ length a ∷ spans_from (start + length a) more

-- "The span table holds start and length of each", and "the texts lie one after another from the front of the output"
abbrev pub spans_of : List (List ℕ) → List ℕ
spans_of args = spans_from 0 args

-- the places of a span table of so many numbers: "an odd last number in it is no place"
abbrev pub places_of : ℕ → ℕ
places_of numbers = numbers / 2

-- "Reading: 2, 3, 4." The room is the units of the output, and the numbers are those of the span table.
unfoldable pub reading : List ℕ → List ℕ → ℕ → ℕ → Outcome (List (List ℕ))
unfolding arguments_read units_read read_limit
reading executable lent room numbers =
    let args = arguments_read executable lent in
    refuse 2 (ltb read_limit (length (units_read executable lent)))
    (refuse 3 (ltb (places_of numbers) (length args)) (refuse 4 (ltb room (length (joined args))) (done args)))

-- ---- one argument

-- "that part of the caller's text itself; for an index not in the table, or a span reaching past the text, it is an empty part"
unfoldable pub argument_part : List ℕ → List ℕ → ℕ → List ℕ
argument_part text spans index =
    let start = get_or spans (2 * index) 0 in
    let size = get_or spans (2 * index + 1) 0 in
    let named = pick (exceeds text start size) [] (part text start size) in
    pick (ltb index (places_of (length spans))) named []
