-- Each entry point's contract allows one answer and one content of lent memory. Assumes nothing.
use Rattle.std.specs.Prelude.{ℕ, ◌≡◌, Bool, List, length, Result}
use Rattle.std.proofs.Common.{sym, ◌∙◌}
use Rattle.rules.specs.declared.Refusal.{Refusal}
use Rattle.rules.specs.declared.Cached.{Cached}
use Rattle.rules.specs.Building.{command_line, batch_command_line}
use Rattle.rules.specs.Block.{environment_block}
use Rattle.rules.specs.Status.{status_outcome}
use Rattle.rules.specs.Reading.{reading}
use Rattle.rules.specs.BlockReading.{block_reading}
use Rattle.rules.specs.Answer.{built_said, filled_said}
use Rattle.rules.specs.Key.{Launch}
use Rattle.rules.specs.Cache.{cache_places, Call}
use Rattle.rules.specs.Store.{Empties, LooksUp, Stores}
use Rattle.laws.specs.Answer.{OneAnswer, OneReading, OneListing, built_one, filled_one, answered_once, read_once, listed_once, cached_one}
use Rattle.promises.specs.History.{After, represented}

-- make_command_line: one answer, and one content of the output
pub line_once : (force : Bool) (program records text before : List ℕ) → OneAnswer built_said (command_line force program records text (length before)) before
line_once force program records text before = answered_once built_one _ before

-- make_bat_command_line: one answer, and one content of the output
pub batch_once : (force : Bool) (script records text before : List ℕ) → OneAnswer built_said (batch_command_line force script records text (length before)) before
batch_once force script records text before = answered_once built_one _ before

-- make_envp: one answer, and one content of the output
pub block_once : (records text before : List ℕ) → OneAnswer filled_said (environment_block records text (length before)) before
block_once records text before = answered_once filled_one _ before

-- status_text: one answer, and one content of the output
pub status_once : (status : ℕ) (before : List ℕ) → OneAnswer filled_said (status_outcome status (length before)) before
status_once status before = answered_once filled_one _ before

-- parse_lp_cmd_line: one answer, and one content of output and span table
pub parse_once : (executable lent text spans : List ℕ) → OneReading (reading executable lent (length text) (length spans)) text spans
parse_once executable lent text spans = read_once _ text spans

-- read_envp: one answer, and one content of the span table
pub entries_once : (lent spans : List ℕ) → OneListing (block_reading lent (length spans)) spans
entries_once lent spans = listed_once _ spans

-- the cache's make and clear: one content of the index, whatever it held
pub emptied_once : {index index' index'' : List ℕ} → Empties index index' → Empties index index'' → index' ≡ index''
emptied_once e f = e.leaves ∙ sym f.leaves

module _ {calls : List Call} {index units : List ℕ} (a : After calls index units) (fingerprint : ℕ) (lent : Launch) where
  -- the cache's lookup: one answer
  pub lookup_once : (r r' : Result Cached Refusal) → LooksUp cache_places index units fingerprint lent r → LooksUp cache_places index units fingerprint lent r' → r ≡ r'
  lookup_once r r' l m = cached_one r r' (l.says _ (represented a) ∙ sym (m.says _ (represented a)))

  -- the cache's store: one answer, and one content of index and units
  pub store_once : (r r' : Result Cached Refusal) {index' units' index'' units'' : List ℕ} → Stores cache_places fingerprint lent r index units index' units'
      → Stores cache_places fingerprint lent r' index units index'' units'' → (r ≡ r') × (index' ≡ index'') × (units' ≡ units'')
  store_once r r' s t =
      let p = s.leaves _ (represented a) in
      let q = t.leaves _ (represented a) in
      (cached_one r r' (s.says _ (represented a) ∙ sym (t.says _ (represented a))), p.words ∙ sym q.words, p.texts ∙ sym q.texts)
