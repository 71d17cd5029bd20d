-- By which numbers records, arguments and entries can be found wrong. Assumes nothing.
use Rattle.std.specs.Prelude.{ℕ, refl, List, [], ◌∷◌}
use Rattle.rules.specs.Choice.{either, both, any}
use Rattle.rules.specs.Unit.{is_nul, is_line_break}
use Rattle.rules.specs.Outcome.{sound, wrong_if}
use Rattle.rules.specs.Record.{is_no_kind, is_regular, exceeds, judged, argument_finding, entry_finding}
use Rattle.rules.specs.Building.{nul_finding, batch_finding}
use Rattle.rules.specs.Block.{entry_nul_finding}
use Rattle.laws.specs.Fault.{Finds, found_if, found_once, found_lent}

-- an argument record by 1 alone
pub argument_finds : (text : List ℕ) → Finds (1 ∷ []) (judged (argument_finding text))
argument_finds text =
    found_lent (argument_finding text) λ number r e. found_once 1 (either (is_no_kind r.kind) (exceeds text r.start r.len)) number e

-- an entry record by 1 alone
pub entry_finds : (text : List ℕ) → Finds (1 ∷ []) (judged (entry_finding text))
entry_finds text =
    found_lent (entry_finding text) λ number r e.
    found_once 1 (either (exceeds text r.key_start r.key_len) (exceeds text r.value_start r.value_len)) number e

-- an argument by 5 alone
pub nul_finds : Finds (5 ∷ []) nul_finding
nul_finds number a e = found_once 5 (any is_nul a.content) number e

-- an argument of a batch line by 6 or 5
pub batch_finds : Finds (6 ∷ 5 ∷ []) batch_finding
batch_finds number a e =
    found_if (6 ∷ 5 ∷ []) 6 (both (is_regular a.kind) (any is_line_break a.content)) (nul_finding a) number refl
    (λ f. found_if (6 ∷ 5 ∷ []) 5 (any is_nul a.content) sound number refl (λ g. cc) f)
    e

-- an entry by 5 alone
pub entry_nul_finds : Finds (5 ∷ []) entry_nul_finding
entry_nul_finds number a e =
    found_if (5 ∷ []) 5 (any is_nul a.key) (wrong_if 5 (any is_nul a.value) sound) number refl (λ f. found_once 5 (any is_nul a.value) number f) e
