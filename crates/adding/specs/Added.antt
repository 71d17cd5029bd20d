-- One argument added behind the units so far: what it adds, how that is counted, and where it is stored. Assumes nothing.
use Rattle.std.specs.Prelude.{ℕ, ◌≡◌, Bool, true, false, List, ◌∷◌, leb, length}
use Rattle.std.proofs.lemmas.List.Edits.{sets}
use Rattle.rules.specs.Choice.{pick}
use Rattle.rules.specs.Unit.{space}
use Rattle.rules.specs.Record.{Argument}
use Rattle.rules.specs.Quoting.{form}
use Rattle.rules.specs.Batch.{batch_form}
use Rattle.rules.specs.Building.{written}
use Rattle.adding.specs.declared.styles.Style.{Style}
use Rattle.adding.specs.Limits.{count_cap, counted}

-- the form of a regular argument in either line
unfoldable pub rule_of : Bool → Bool → List ℕ → List ℕ
unfolding form batch_form
rule_of true force xs = batch_form force xs
rule_of false force xs = form force xs

-- one space and an argument's form
abbrev pub piece : Style → Argument → List ℕ
piece s a = space ∷ written (rule_of s.batch) s.force a

-- a run behind so many units; at the cap nothing is stored any more
unfoldable pub stored : List ℕ → ℕ → List ℕ → List ℕ
unfolding count_cap
stored out units run = pick (leb count_cap units) out (sets out units run)

-- a run counted behind so many units, and stored there
pub record Added (run : List ℕ) (units count : ℕ) (before after : List ℕ) : Type 0 where
  pub counts : count ≡ counted units (length run)
  pub stores : after ≡ stored before units run
