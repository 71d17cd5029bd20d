-- The spans of entries in a block, lent on as records over that block. Assumes nothing.
use Rattle.std.specs.Prelude.{ℕ, ◌+◌, ◌*◌, ◌≤◌, ◌≡◌, refl, false, List, [], ◌∷◌, ◌++◌, length, take}
use Rattle.std.proofs.Common.{arith, le-ltb, sym, ap, ◌∙◌, append_assoc, length-append}
use Rattle.std.proofs.Math.Seq.{take-append_seam, drop-append_seam}
use Rattle.rules.specs.Unit.{nul, equals}
use Rattle.rules.specs.Outcome.{done}
use Rattle.rules.specs.Record.{Entry, EntryRecord, part, exceeds, judged, entry_finding, entry_records, entry_fault, entry_of, entries_of, wholes}
use Rattle.rules.specs.Block.{block, block_limit, entry_units, entry_nul_finding, environment_block}
use Rattle.rules.specs.BlockReading.{entry_size, entry_sizes, units_used, entry_spans_from, entry_spans}
use Rattle.laws.specs.Fault.{Sound, all_sound}
use Rattle.laws.specs.Entry.{AllPlain, units_used_lem}

-- four numbers an entry
pub entry_spans_length : (start : ℕ) (entries : List Entry) → length (entry_spans_from start entries) ≡ 4 * length entries
entry_spans_length start [] = refl
entry_spans_length start (e ∷ more) = omega (arith, entry_spans_length (start + entry_size e) more)

-- one entry more behind others: its spans start where they end
pub last_spans : (start : ℕ) (entries : List Entry) (e : Entry)
    → entry_spans_from start (entries ++ e ∷ []) ≡ entry_spans_from start entries ++ entry_spans_from (start + entry_sizes entries) (e ∷ [])
last_spans start [] e = let z : start + 0 ≡ start = omega arith in rw z
last_spans start (f ∷ more) e =
    let n : start + entry_size f + entry_sizes more ≡ start + entry_sizes (f ∷ more) = omega arith in
    rw (last_spans (start + entry_size f) more e, n)

-- ---- one part

-- the part that a start and a length name, where it stands behind a front
part_named : (text front a rest : List ℕ) (start : ℕ) → text ≡ front ++ (a ++ rest) → start ≡ length front
    → (part text start (length a) ≡ a) × (exceeds text start (length a) ≡ false)
part_named text front a rest start e h =
    let l : length text ≡ length front + (length a + length rest) = ap length e ∙ simp length-append refl in
    (rw (e, h, drop-append_seam front (a ++ rest)) (take-append_seam a rest), le-ltb (length text) (start + length a) (omega arith))

-- an entry's key, its value, and what stands behind it, each behind its front
module _ (front key value more rest : List ℕ) where
  abbrev shape : List ℕ
  shape = front ++ (((key ++ equals ∷ value) ++ nul ∷ more) ++ rest)

  at_key : shape ≡ front ++ (key ++ (equals ∷ (value ++ nul ∷ (more ++ rest))))
  at_key = simp append_assoc refl

  at_value : shape ≡ (front ++ (key ++ equals ∷ [])) ++ (value ++ (nul ∷ (more ++ rest)))
  at_value = simp append_assoc refl

  at_next : shape ≡ (front ++ ((key ++ equals ∷ value) ++ nul ∷ [])) ++ (more ++ rest)
  at_next = simp append_assoc refl

-- ---- all of them

-- records over a text that are sound and name the entries
record Over (text records : List ℕ) (entries : List Entry) : Type 0 where
  names : entries_of text records ≡ entries
  within : Sound (judged (entry_finding text)) (entry_records records)

-- the record of one more entry in front
over_more : (text more : List ℕ) (es : List Entry) (r : EntryRecord) (e : Entry) → entry_of text r ≡ e
    → exceeds text r.key_start r.key_len ≡ false → exceeds text r.value_start r.value_len ≡ false
    → Over text more es → Over text (r.key_start ∷ r.key_len ∷ r.value_start ∷ r.value_len ∷ more) (e ∷ es)
unfolding entries_of entry_records wholes
over_more text more es r e n k v o = record { names = rw (n, o.names); within = (rw (k, v), o.within) }

-- the spans of entries that stand in a text behind a front, their first starting there
spans_over : (text front rest : List ℕ) (start : ℕ) (entries : List Entry) → text ≡ front ++ (entry_units entries ++ rest) → start ≡ length front
    → Over text (entry_spans_from start entries) entries
unfolding entry_units entries_of entry_records wholes
spans_over text front rest start [] e h = record { names = refl; within = tt }
spans_over text front rest start (x ∷ more) e h =
    let K = x.key in
    let W = x.value in
    let U = entry_units more in
    let (kn, kx) = part_named text front K (equals ∷ (W ++ nul ∷ (U ++ rest))) start (e ∙ at_key front K W U rest) h in
    let (vn, vx) =
    part_named text (front ++ (K ++ equals ∷ [])) W (nul ∷ (U ++ rest)) (start + length K + 1) (e ∙ at_value front K W U rest) (simp length-append (omega arith)) in
    let next =
    spans_over text (front ++ ((K ++ equals ∷ W) ++ nul ∷ [])) rest (start + entry_size x) more (e ∙ at_next front K W U rest)
    (simp length-append (omega arith)) in
    over_more text (entry_spans_from (start + entry_size x) more) more
    (record { key_start = start; key_len = length K; value_start = start + length K + 1; value_len = length W }) x (rw (kn, vn)) kx vx next

-- entries that can be written have no NUL
plain_sound : (entries : List Entry) → AllPlain entries → Sound entry_nul_finding entries
plain_sound [] h = tt
plain_sound (e ∷ more) h = (rw (h.0.key_clean, h.0.value_clean), plain_sound more h.1)

-- a block is its entries in front of what ends it
block_shape : (entries : List Entry) → (rest : List ℕ) × (block entries ≡ entry_units entries ++ rest)
unfolding block entry_units
block_shape [] = (nul ∷ nul ∷ [], refl)
block_shape (e ∷ more) = (nul ∷ [], refl)

-- the spans of a block's entries, lent on over a slice that starts with the block, build that block
pub spans_build : (lent rest : List ℕ) (entries : List Entry) (room : ℕ) → lent ≡ block entries ++ rest → AllPlain entries → length lent ≤ block_limit
    → units_used entries ≤ room → environment_block (entry_spans entries) lent room ≡ done (take (units_used entries) lent)
unfolding environment_block entry_fault
spans_build lent rest entries room e p short wide =
    let (behind, shape) = block_shape entries in
    let o =
    spans_over lent [] (behind ++ rest) 0 entries
    (e ∙ ap (λ (l : List ℕ). l ++ rest) shape ∙ append_assoc (entry_units entries) behind rest) refl in
    let u = units_used_lem entries in
    let l : length lent ≡ length (block entries) + length rest = ap length e ∙ length-append (block entries) rest in
    let front : block entries ≡ take (units_used entries) lent =
    sym (ap (λ (n : ℕ). take n lent) u ∙ ap (take (length (block entries))) e ∙ take-append_seam (block entries) rest) in
    rw (
      (all_sound (judged (entry_finding lent)) (entry_records (entry_spans entries))).1 o.within,
      o.names,
      (all_sound entry_nul_finding entries).1 (plain_sound entries p),
      le-ltb block_limit (length (block entries)) (omega arith),
      le-ltb room (length (block entries)) (omega arith),
    )
    (ap done front)
