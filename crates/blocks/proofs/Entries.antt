-- The units of entries and of a block, counted and stored one entry after another. Assumes nothing.
use Prim.Native.Nat.{ℕ, ◌+◌, ◌≤◌, ◌<◌, zero-le}
use borrow.Author.Tests.{lt-ltb, le-ltb, ltb-true, ltb-false}
use mathlib.Core.Bool.{Bool, true, false}
use lib.Dec.{ltb}
use Rattle.rules.specs.Choice.{pick}
use native.Mathlib.Numerals.{add-one}
use native.Mathlib.Omega.{arith}
use mathlib.Core.Path.{◌≡◌, refl, sym, ap, ◌∙◌}
use mathlib.Core.List.{List, [], ◌∷◌, ◌++◌, append_assoc}
use lib.ListN.{length, set, length-append}
use lib.Seq.{sets}
use Rattle.laws.specs.Store.{sets_append}
use Rattle.rules.specs.Unit.{equals, nul}
use Rattle.rules.specs.Record.{Entry}
use Rattle.rules.specs.Block.{entry_units, block}
use Rattle.blocks.specs.Entries.{one_entry, Written, until_past, block_end, block_until_past}

-- ---- one entry

-- key, mark, value and end, stored one after the other
pub entry_written : (e : Entry) (at : ℕ) {key value : List ℕ} {o₀ o₁ o₂ o₃ o₄ : List ℕ} → key ≡ e.key → value ≡ e.value
    → o₁ ≡ sets o₀ at key → o₂ ≡ set o₁ (at + length key) equals
    → o₃ ≡ sets o₂ (at + length key + 1) value → o₄ ≡ set o₃ (at + length key + 1 + length value) nul
    → Written at (one_entry e) o₀ o₄ (at + length key + 1 + length value + 1)
entry_written e at {key} {value} {o₀} k v h₁ h₂ h₃ h₄ =
    let front = key ++ equals ∷ value in
    let n : at + length front ≡ at + length key + 1 + length value = simp length-append (omega arith) in
    rw (← k, ← v)
    (record {
      place = simp length-append (omega arith);
      stores = rw (h₄, h₃, h₂, h₁, sets_append o₀ at front (nul ∷ []), n, sets_append o₀ at key (equals ∷ value), add-one (at + length key));
    })

-- ---- all entries

-- the units of the rest are still to be counted and stored
pub record Putting (limit : ℕ) (all rest : List Entry) (before out : List ℕ) (to : ℕ) : Type 0 where
  pub below : to ≤ limit
  pub counts : to + length (until_past limit to rest) ≡ length (until_past limit 0 all)
  pub stores : sets out to (until_past limit to rest) ≡ sets before 0 (until_past limit 0 all)
  pub same : length out ≡ length before

module _ {limit : ℕ} {all rest : List Entry} {before out : List ℕ} {to : ℕ} (putting : Putting limit all rest before out to) where
  -- nothing is left
  pub all_put : rest ≡ [] → Written 0 (until_past limit 0 all) before out to
  unfolding until_past
  all_put e = record { place = omega (arith, rw e at putting.counts); stores = rw e at putting.stores }

  module _ {e : Entry} {more : List Entry} {after : List ℕ} {next : ℕ} (split : rest ≡ e ∷ more) (written : Written to (one_entry e) out after next) where
    -- past the limit
    pub too_many : limit < next → Written 0 (until_past limit 0 all) before after next
    unfolding until_past
    too_many h =
        let t : ltb limit (to + length (one_entry e)) ≡ true = lt-ltb limit (to + length (one_entry e)) (rw written.place at h) in
        record {
          place = omega (arith, rw (split, t) at putting.counts, written.place);
          stores = written.stores ∙ (rw (split, t) at putting.stores);
        }

    -- one entry more
    pub one_put : next ≤ limit → length after ≡ length out → Putting limit all more before after next
    unfolding until_past
    one_put h s =
        let one = one_entry e in
        let others = until_past limit (to + length one) more in
        let t : ltb limit (to + length one) ≡ false = le-ltb limit (to + length one) (rw written.place at h) in
        let n : to + length (one ++ others) ≡ length (until_past limit 0 all) = rw (split, t) at putting.counts in
        record {
          below = h;
          counts = rw written.place (omega (arith, n, length-append one others));
          stores = rw (written.stores, written.place) (sym (sets_append out to one others) ∙ (rw (split, t) at putting.stores));
          same = s ∙ putting.same;
        }

-- ---- the block

-- the units of an entry are some
entry_some : (e : Entry) → 0 < length (one_entry e)
entry_some e = rw length-append (omega arith)

-- where there are no entries, no units are counted
none_counted : (limit : ℕ) → until_past limit 0 [] ≡ []
unfolding until_past
none_counted limit = refl

-- where there are entries, some are
units_some : (limit : ℕ) (e : Entry) (more : List Entry) → 0 < length (until_past limit 0 (e ∷ more))
unfolding until_past
units_some limit e more = go (ltb limit (0 + length (one_entry e)))
  where
    go : (b : Bool) → 0 < length (pick b (one_entry e) (one_entry e ++ until_past limit (0 + length (one_entry e)) more))
    go true = entry_some e
    go false = rw length-append (omega (arith, entry_some e))

module _ (limit end : ℕ) (entries : List Entry) {before o₁ : List ℕ} (put : Written 0 (until_past limit 0 entries) before o₁ end) where
  counted : end ≡ length (until_past limit 0 entries)
  counted = omega (arith, put.place)

  -- the entries alone are past the limit
  pub block_past : limit < end → Written 0 (block_until_past limit entries) before o₁ end
  unfolding block_until_past
  block_past h = rw (lt-ltb limit (length (until_past limit 0 entries)) (rw counted at h)) put

  within : {after : List ℕ} {r : ℕ} → end ≤ limit → Written 0 (until_past limit 0 entries ++ block_end entries) before after r
      → Written 0 (block_until_past limit entries) before after r
  unfolding block_until_past
  within l w = rw (le-ltb limit (length (until_past limit 0 entries)) (rw counted at l)) w

  -- no entries: two NULs
  pub block_empty : {o₂ o₃ : List ℕ} → end ≤ limit → end ≡ 0 → o₂ ≡ set o₁ end nul → o₃ ≡ set o₂ 1 nul → Written 0 (block_until_past limit entries) before o₃ 2
  block_empty {o₂} {o₃} l z h₂ h₃ = within l (go entries put)
    where
      go : (entries : List Entry) → Written 0 (until_past limit 0 entries) before o₁ end → Written 0 (until_past limit 0 entries ++ block_end entries) before o₃ 2
      go [] w = rw (none_counted limit) (record { place = omega arith; stores = rw (h₃, h₂, z, w.stores, none_counted limit) })
      go (e ∷ more) w = absurd (omega (arith, units_some limit e more, w.place))

  -- entries, and one NUL behind the last
  pub block_full : {o₂ : List ℕ} → end ≤ limit → (end ≡ 0 → ⊥) → o₂ ≡ set o₁ end nul → Written 0 (block_until_past limit entries) before o₂ (end + 1)
  block_full {o₂} l z h₂ = within l (go entries put)
    where
      go : (entries : List Entry) → Written 0 (until_past limit 0 entries) before o₁ end → Written 0 (until_past limit 0 entries ++ block_end entries) before o₂ (end + 1)
      go [] w = absurd (z (omega (arith, rw (none_counted limit) at w.place)))
      go (e ∷ more) w =
          let units = until_past limit 0 (e ∷ more) in
          record {
            place = rw length-append (omega (arith, w.place));
            stores = rw (h₂, sets_append before 0 units (nul ∷ []), ← w.stores, ← w.place);
          }

-- ---- what is counted, and the whole

-- within the limit it is the whole; past the limit so is the whole
pub record CountsFor (limit : ℕ) (whole counted : List ℕ) : Type 0 where
  pub same : length counted ≤ limit → counted ≡ whole
  pub past : limit < length counted → limit < length whole

-- the first entry's units, then those of the others
units_next : (e : Entry) (more : List Entry) → entry_units (e ∷ more) ≡ one_entry e ++ entry_units more
unfolding entry_units
units_next e more = sym (append_assoc (e.key ++ equals ∷ e.value) (nul ∷ []) (entry_units more))

-- the entries' units, then what closes them
block_is : (entries : List Entry) → block entries ≡ entry_units entries ++ block_end entries
unfolding block entry_units
block_is [] = refl
block_is (e ∷ more) = refl

no_longer : (limit to : ℕ) (entries : List Entry) → length (until_past limit to entries) ≤ length (entry_units entries)
unfolding until_past
no_longer limit to [] = zero-le
no_longer limit to (e ∷ more) = rw (units_next e more, length-append (one_entry e) (entry_units more)) (go (ltb limit (to + length (one_entry e))) (no_longer limit (to + length (one_entry e)) more))
  where
    go : (b : Bool) → length (until_past limit (to + length (one_entry e)) more) ≤ length (entry_units more)
        → length (pick b (one_entry e) (one_entry e ++ until_past limit (to + length (one_entry e)) more)) ≤ length (one_entry e) + length (entry_units more)
    go true h = omega arith
    go false h = rw length-append (omega arith)

all_counted : (limit to : ℕ) (entries : List Entry) → to + length (until_past limit to entries) ≤ limit → until_past limit to entries ≡ entry_units entries
unfolding until_past entry_units
all_counted limit to [] h = refl
all_counted limit to (e ∷ more) h = go (ltb limit (to + length (one_entry e))) refl h (λ g. all_counted limit (to + length (one_entry e)) more g)
  where
    others : List ℕ
    others = until_past limit (to + length (one_entry e)) more

    go : (b : Bool) → ltb limit (to + length (one_entry e)) ≡ b → to + length (pick b (one_entry e) (one_entry e ++ others)) ≤ limit
        → (to + length (one_entry e) + length others ≤ limit → others ≡ entry_units more) → pick b (one_entry e) (one_entry e ++ others) ≡ entry_units (e ∷ more)
    go true t g ih = absurd (omega (arith, ltb-true limit (to + length (one_entry e)) t))
    go false t g ih = ap (λ (l : List ℕ). one_entry e ++ l) (ih (omega (arith, length-append (one_entry e) others))) ∙ sym (units_next e more)

pub counts_for : (limit : ℕ) (entries : List Entry) → CountsFor limit (block entries) (block_until_past limit entries)
unfolding block_until_past
counts_for limit entries = go (ltb limit (length units)) refl
  where
    units : List ℕ
    units = until_past limit 0 entries

    go : (b : Bool) → ltb limit (length units) ≡ b → CountsFor limit (block entries) (pick b units (units ++ block_end entries))
    go true e =
        let l = ltb-true limit (length units) e in
        record { same = λ h. absurd (omega arith); past = λ h. rw (block_is entries, length-append) (omega (arith, no_longer limit 0 entries)) }
    go false e =
        let l = ltb-false limit (length units) e in
        let w : units ≡ entry_units entries = all_counted limit 0 entries (omega arith) in
        rw (w, ← block_is entries) (record { same = λ h. refl; past = λ h. h })
