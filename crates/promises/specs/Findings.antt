-- What it says of a record, an argument or an entry that it is found wrong by a number. Assumes nothing.
use Rattle.std.specs.Prelude.{ℕ, ◌≡◌, refl, ◌↔◌, Bool, true, false, List}
use Rattle.std.proofs.Common.{arith}
use Rattle.rules.specs.declared.Arg.{Arg}
use Rattle.rules.specs.Choice.{either, both, any}
use Rattle.rules.specs.Unit.{is_nul, is_line_break}
use Rattle.rules.specs.Outcome.{Finding, sound, wrong, wrong_if}
use Rattle.rules.specs.Record.{whole, cut, judged, is_no_kind, is_regular, exceeds, argument_finding, EntryRecord, entry_finding, Argument, Entry}
use Rattle.rules.specs.Building.{nul_finding, batch_finding}
use Rattle.rules.specs.Block.{entry_nul_finding}
use Rattle.laws.specs.Fault.{found_exactly, sound_not}
use Rattle.laws.specs.Order.{◌and◌}

-- ---- 1

-- "a flat list ends inside a record": a cut record is wrong by 1, whatever is looked for in whole ones
pub cut_wrong : {A : Type 0} (find : A → Finding) → judged find cut ≡ wrong 1
cut_wrong find = refl

-- "a record's kind isn't 0 or 1 .., or its start plus length exceeds the lent text's"
pub record_wrong : (text : List ℕ) (r : Arg)
    → (judged (argument_finding text) (whole r) ≡ wrong 1) ↔ (either (is_no_kind r.kind) (exceeds text r.start r.len) ≡ true)
record_wrong text r = found_exactly 1 _ sound (sound_not 1)

-- the key's or the value's start plus length exceeds the lent text's
pub entry_wrong : (text : List ℕ) (r : EntryRecord)
    → (judged (entry_finding text) (whole r) ≡ wrong 1) ↔ (either (exceeds text r.key_start r.key_len) (exceeds text r.value_start r.value_len) ≡ true)
entry_wrong text r = found_exactly 1 _ sound (sound_not 1)

-- ---- 5 and 6

-- NUL in an argument
pub nul_wrong : (a : Argument) → (nul_finding a ≡ wrong 5) ↔ (any is_nul a.content ≡ true)
nul_wrong a = found_exactly 5 _ sound (sound_not 5)

-- "CR (13) or LF (10) in a regular argument of a batch line"
pub break_wrong : (a : Argument) → (batch_finding a ≡ wrong 6) ↔ (both (is_regular a.kind) (any is_line_break a.content) ≡ true)
break_wrong a = found_exactly 6 _ (nul_finding a) (go (any is_nul a.content))
  where
    go : (b : Bool) → ¬ (wrong_if 5 b sound ≡ wrong 6)
    go true e = let z : ◌≡◌ {A = ℕ} 5 6 = cc in omega arith
    go false e = sound_not 6 e

-- NUL in an argument of a batch line: "6 before 5"
pub batch_nul_wrong : (a : Argument)
    → (batch_finding a ≡ wrong 5) ↔ ((both (is_regular a.kind) (any is_line_break a.content) ≡ false) and (any is_nul a.content ≡ true))
batch_nul_wrong a = (go (both (is_regular a.kind) (any is_line_break a.content)), λ h. rw (h.0, h.1))
  where
    go : (b : Bool) → wrong_if 6 b (nul_finding a) ≡ wrong 5 → (b ≡ false) and (any is_nul a.content ≡ true)
    go true e = let z : ◌≡◌ {A = ℕ} 6 5 = cc in absurd (omega arith)
    go false e = (refl, (nul_wrong a).0 e)

-- NUL in a key or value
pub entry_nul_wrong : (e : Entry) → (entry_nul_finding e ≡ wrong 5) ↔ (either (any is_nul e.key) (any is_nul e.value) ≡ true)
entry_nul_wrong e = go (any is_nul e.key)
  where
    go : (b : Bool) → (wrong_if 5 b (wrong_if 5 (any is_nul e.value) sound) ≡ wrong 5) ↔ (either b (any is_nul e.value) ≡ true)
    go true = (λ f. refl, λ f. refl)
    go false = found_exactly 5 (any is_nul e.value) sound (sound_not 5)
