-- The words of a call: commands, entries, and the places of words in a text. Assumes nothing.
use Rattle.std.specs.Prelude.{ℕ, suc, ◌+◌, ◌≤◌, ◌≡◌, refl, Bool, true, false, List, [], ◌∷◌, leb, length}
use Rattle.std.proofs.Common.{arith, sym, ◌∙◌, leb-true}
use Rattle.std.proofs.lemmas.List.Edits.{sets}
use Rattle.rules.specs.Choice.{pick, both, equal}
use Rattle.rules.specs.Unit.{units, is_equals}
use Rattle.laws.specs.Scan.{before}
use Rattle.terminal.specs.Number.{largest}
use Rattle.terminal.specs.declared.words.Command.{Command}

-- the command that a word names, of those that are asked about one word or none
unfoldable pub small_command_of : List ℕ → Command
unfolding equal units
small_command_of word =
    pick (equal word (units "status")) Command.Status
    (pick (equal word (units "suffix")) Command.Suffix (pick (equal word (units "help")) Command.Help Command.Unknown))

-- the command that a word names
unfoldable pub command_of : List ℕ → Command
unfolding equal units small_command_of
command_of word =
    pick (equal word (units "read")) Command.Read
    (pick (equal word (units "write")) Command.Write
    (pick (equal word (units "batch")) Command.Batch (pick (equal word (units "env")) Command.Env (small_command_of word))))

-- the word asks for quotes round each argument
unfoldable pub is_force : List ℕ → Bool
unfolding equal units
is_force word = equal word (units "--force")

-- how long an entry's key is: up to the first `=` that is not the first unit, or to the end where there is none
unfoldable pub key_length : List ℕ → ℕ
key_length [] = 0
key_length (x ∷ more) = suc (before is_equals more)

-- start and length of a part have a place in the table, and fit it
unfoldable pub is_place : List ℕ → ℕ → ℕ → ℕ → Bool
is_place table at start size = both (leb (at + 2) (length table)) (both (leb start largest) (leb size largest))

-- start and length of a part stand in the table if they have a place there, which the answer says
pub record Spanned (at start size : ℕ) (r : Bool) (table table' : List ℕ) : Type 0 where
  pub says : r ≡ is_place table at start size
  pub stores : table' ≡ pick r (sets table at (start ∷ size ∷ [])) table

-- such a contract allows one answer and one content of the table
pub spanned_one : {at start size : ℕ} {r r' : Bool} {table table' table'' : List ℕ}
    → Spanned at start size r table table' → Spanned at start size r' table table'' → (r ≡ r') × (table' ≡ table'')
spanned_one {at} {start} {size} {table = table} a b =
    let e = a.says ∙ sym b.says in
    (e, a.stores ∙ rw e (sym b.stores))

-- where the answer is yes, the table has the place
pub spanned_in : {at start size : ℕ} {r : Bool} {table table' : List ℕ} → Spanned at start size r table table' → r ≡ true → at + 2 ≤ length table
unfolding is_place
spanned_in {at} {start} {size} {table = table} s h = go (leb (at + 2) (length table)) refl (sym s.says ∙ h)
  where
    go : (b : Bool) → leb (at + 2) (length table) ≡ b → both b (both (leb start largest) (leb size largest)) ≡ true → at + 2 ≤ length table
    go true e g = leb-true (at + 2) (length table) e
    go false e g = let z : ◌≡◌ {A = ℕ} 0 1 = cc in omega arith
