-- Each exported function's contract allows one answer and one content of lent memory. Assumes nothing.
-- The exports that are not named here state their result, or the lent array, as an equation.
use Rattle.std.specs.Prelude.{ℕ, ◌≡◌, List}
use Rattle.std.proofs.Common.{sym, ap, ◌∙◌}
use Rattle.rules.specs.Outcome.{Outcome}
use Rattle.rules.specs.Record.{Entry}
use Rattle.rules.specs.Answer.{Said}
use Rattle.rules.specs.Key.{Launch}
use Rattle.rules.specs.Cache.{cache_places, CacheEntry, Served}
use Rattle.rules.specs.Store.{Represents}
use Rattle.aslapush.specs.Export.{Told, Wrote, Gave, Tabulated, served_number, served_numbers, CacheTold, LookupTold, StoreTold}

-- one number is returned, and one array of numbers is filled
told_once : {s : Said} {number number' : ℕ} {answer answer' : List ℕ} → Told s number answer → Told s number' answer'
    → (number ≡ number') × (answer ≡ answer')
told_once t u = (t.returns ∙ sym u.returns, t.fills ∙ sym u.fills)

-- an exported function that writes units: one number, one array, and one content of the output
pub wrote_once : {o : Outcome (List ℕ)} {number number' : ℕ} {answer answer' before after after' : List ℕ} → Wrote o number answer before after
    → Wrote o number' answer' before after' → (number ≡ number') × (answer ≡ answer') × (after ≡ after')
wrote_once w v = let (numbers, answers) = told_once w.tells v.tells in (numbers, answers, w.leaves ∙ sym v.leaves)

-- the exported reader: one number, one array, and one content of output and span table
pub gave_once : {o : Outcome (List (List ℕ))} {number number' : ℕ} {answer answer' text text' text'' spans spans' spans'' : List ℕ}
    → Gave o number answer text text' spans spans' → Gave o number' answer' text text'' spans spans''
    → (number ≡ number') × (answer ≡ answer') × (text' ≡ text'') × (spans' ≡ spans'')
gave_once g h =
    let (numbers, answers) = told_once g.tells h.tells in
    (numbers, answers, g.leaves ∙ sym h.leaves, g.tabulates ∙ sym h.tabulates)

-- the exported reader of blocks: one number, one array, and one content of the span table
pub tabulated_once : {o : Outcome (List Entry)} {number number' : ℕ} {answer answer' spans spans' spans'' : List ℕ}
    → Tabulated o number answer spans spans' → Tabulated o number' answer' spans spans'' → (number ≡ number') × (answer ≡ answer') × (spans' ≡ spans'')
tabulated_once g h = let (numbers, answers) = told_once g.tells h.tells in (numbers, answers, g.tabulates ∙ sym h.tabulates)

-- ---- the launch line cache, over a store that stands for entries

-- one number, and one array of numbers
serves_once : {o o' : Outcome Served} {number number' : ℕ} {answer answer' : List ℕ} → o ≡ o' → CacheTold o number answer → CacheTold o' number' answer'
    → (number ≡ number') × (answer ≡ answer')
serves_once e t u = (t.returns ∙ ap served_number e ∙ sym u.returns, t.fills ∙ ap served_numbers e ∙ sym u.fills)

module _ {index units : List ℕ} (es : List CacheEntry) (h : Represents cache_places index units es) {fingerprint : ℕ} {lent : Launch} {number number' : ℕ} {answer answer' : List ℕ} where
  -- the exported lookup
  pub lookup_told_once : LookupTold index units fingerprint lent number answer → LookupTold index units fingerprint lent number' answer'
      → (number ≡ number') × (answer ≡ answer')
  lookup_told_once l m = serves_once (l.looks.says es h ∙ sym (m.looks.says es h)) l.tells m.tells

  -- the exported storing: one content of index and units too
  pub store_told_once : {index' units' index'' units'' : List ℕ} → StoreTold fingerprint lent number answer index units index' units'
      → StoreTold fingerprint lent number' answer' index units index'' units'' → (number ≡ number') × (answer ≡ answer') × (index' ≡ index'') × (units' ≡ units'')
  store_told_once s t =
      let (numbers, answers) = serves_once (s.stores.says es h ∙ sym (t.stores.says es h)) s.tells t.tells in
      let p = s.stores.leaves es h in
      let q = t.stores.leaves es h in
      (numbers, answers, p.words ∙ sym q.words, p.texts ∙ sym q.texts)
