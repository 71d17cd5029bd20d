-- The bytes of an answer. Assumes nothing.
use Rattle.std.specs.Prelude.{ℕ, Bool, true, false, List, [], ◌∷◌, ◌++◌, ltb, take, drop}
use Rattle.rules.specs.Choice.{pick}
use Rattle.rules.specs.Unit.{units}
use Rattle.rules.specs.Status.{digits}
use Rattle.rules.specs.Record.{part}
use Rattle.forms.specs.Form.{each, shown}
use Rattle.replies.specs.declared.answers.Answer.{Answer}
use Rattle.replies.specs.declared.answers.Manner.{Manner}
use Rattle.replies.specs.declared.answers.Word.{Word}

-- a number below 2 ^ 64 in decimal: it has at most 20 digits
unfoldable pub decimal : ℕ → List ℕ
unfolding digits
decimal n = digits 10 19 n

-- a space and a number, with its sign
unfoldable pub number_bytes : Bool → ℕ → List ℕ
unfolding decimal
number_bytes true n = 32 ∷ 45 ∷ decimal n
number_bytes false n = 32 ∷ decimal n

-- a number where it is shown
abbrev pub number_if : Bool → ℕ → List ℕ
number_if shown n = pick shown (number_bytes false n) []

-- the word
unfoldable pub word_bytes : Word → List ℕ
unfolding units
word_bytes Word.Bad = units "bad"
word_bytes Word.Ok = units "ok"
word_bytes Word.Refused = units "refused"
word_bytes Word.Hit = units "hit"
word_bytes Word.Miss = units "miss"
word_bytes Word.Stored = units "stored"
word_bytes Word.Held = units "held"

-- what stands in front of a text: a space, or the colon between a key and its value
abbrev pub separator_of : Manner → ℕ
separator_of Manner.Text = 32
separator_of Manner.Key = 32
separator_of Manner.Value = 58

-- a colon stands for itself; "In KEY and VALUE a colon is `{3a}`"
abbrev pub colons_of : Manner → Bool
colons_of Manner.Text = true
colons_of Manner.Key = false
colons_of Manner.Value = false

-- a value stands behind each key
abbrev pub after_of : Manner → Manner
after_of Manner.Text = Manner.Text
after_of Manner.Key = Manner.Value
after_of Manner.Value = Manner.Key

-- the texts that a span table names
unfoldable pub texts_in : List ℕ → List ℕ → List (List ℕ)
texts_in out [] = []
texts_in out (start ∷ []) = []
texts_in out (start ∷ size ∷ more) = part out start size ∷ texts_in out more

-- texts with what stands in front of each
unfoldable pub texts_bytes : Manner → List (List ℕ) → List ℕ
unfolding shown
texts_bytes manner [] = []
texts_bytes manner (text ∷ more) = (separator_of manner ∷ shown (colons_of manner) text) ++ texts_bytes (after_of manner) more

-- a whole answer: the word, so many of two numbers, texts, numbers, and a line feed
unfoldable pub answer_bytes : Answer → List ℕ → List ℕ → List ℕ → List ℕ
unfolding each number_bytes word_bytes texts_in texts_bytes
answer_bytes a out spans numbers =
    word_bytes a.word
    ++ (number_if (ltb 0 a.count) a.first
    ++ (number_if (ltb 1 a.count) a.second
    ++ (texts_bytes a.manner (texts_in out (take a.spans spans))
    ++ (each (number_bytes a.negative) (drop a.from (take a.to numbers)) ++ 10 ∷ []))))
