-- Each step through a later argument: what it takes is what the argument goes on by, and how each way through the code takes it. Assumes nothing.
use mathlib.Core.Path.{◌≡◌, refl, ap, ◌∙◌}
use mathlib.Core.Bool.{Bool, true, false}
use mathlib.Core.List.{List, [], ◌∷◌, ◌++◌}
use Prim.Native.Nat.{ℕ, suc, ◌+◌, ◌/◌, ◌%◌, ◌≤◌, ◌<◌}
use native.Mathlib.Nat.{zero-add}
use native.Mathlib.Omega.{arith}
use lib.ListN.{length, get_or, take, drop, set, replicate, length-append, length-replicate, length-drop, drop_of_length-le}
use lib.Seq.{sets, length-take-le, drop-drop}
use borrow.Author.Tests.{eqb-true, eq-eqb, ne_eqb}
use Rattle.rules.specs.Choice.{pick}
use Rattle.rules.specs.Unit.{is_quote, is_backslash, quote}
use Rattle.rules.specs.Quoting.{slashes}
use Rattle.rules.specs.Reading.{odd}
use Rattle.laws.specs.Scan.{leading, leading_in}
use Rattle.laws.specs.Store.{sets_append}
use Rattle.arguments.specs.declared.steps.Point.{Point}
use Rattle.laws.specs.Run.{at, at_is, run_stops, starts_with_lem, starts_with}
use Rattle.arguments.specs.Run.{is_end, is_taken}
use Rattle.arguments.specs.Next.{with_front, mode, next_argument, later_argument}
use Rattle.arguments.specs.Step.{OneStep, mark_step, slashes_at, plain_step, step_at, Stepped}
use Rattle.arguments.proofs.Next as N
use Rattle.arguments.proofs.Still as still
use Rattle.arguments.proofs.Still.{Still}

-- ---- what a step is

-- an argument goes on by a step: its units are these and then those of what is behind it
pub record Steps (q : Bool) (here : List ℕ) (s : OneStep) : Type 0 where
  pub reads : later_argument q here ≡ with_front s.given (later_argument s.quoted (drop s.used here))
  pub within : s.used ≤ length here
  pub some : 0 < s.used
  pub few : length s.given ≤ s.used

-- a quote mark
mark_steps : (q : Bool) (behind : List ℕ) → Steps q (quote ∷ behind) (mark_step q behind)
unfolding starts_with
mark_steps false behind = record { reads = N.opens behind; within = omega arith; some = omega arith; few = omega arith }
mark_steps true [] = record { reads = N.stays; within = omega arith; some = omega arith; few = omega arith }
mark_steps true (x ∷ xs) = go (is_quote x) refl
  where
    go : (b : Bool) → is_quote x ≡ b → Steps true (quote ∷ x ∷ xs) (pick b (record { used = 2; given = quote ∷ []; quoted = true }) (record { used = 1; given = []; quoted = false }))
    go true e = rw (eqb-true x 34 e) (record { reads = N.doubles xs; within = omega arith; some = omega arith; few = omega arith })
    go false e = record { reads = N.closes x xs e; within = omega arith; some = omega arith; few = omega arith }

-- a run of backslashes
slash_steps : (q : Bool) (here : List ℕ) → 0 < leading is_backslash here → Steps q here (slashes_at q here)
slash_steps q here some = go (starts_with is_quote (drop k here)) (odd k) refl refl
  where
    k : ℕ
    k = leading is_backslash here

    inside : k ≤ length here
    inside = leading_in is_backslash here

    passes : later_argument q here ≡ next_argument (mode q) k (drop k here)
    passes = N.counts q 0 here ∙ rw zero-add

    mark : starts_with is_quote (drop k here) ≡ true → drop k here ≡ quote ∷ drop (k + 1) here
    mark u = starts_with_lem 34 (drop k here) u ∙ rw drop-drop

    marked_in : starts_with is_quote (drop k here) ≡ true → k < length here
    marked_in u = let l : length (drop k here) ≡ suc (length (drop (k + 1) here)) = ap length (mark u) in omega (arith, length-drop k here)

    go : (b c : Bool) → starts_with is_quote (drop k here) ≡ b → odd k ≡ c
        → Steps q here (pick b (pick c (record { used = k + 1; given = slashes (k / 2) ++ quote ∷ []; quoted = q }) (record { used = k; given = slashes (k / 2); quoted = q })) (record { used = k; given = slashes k; quoted = q }))
    go true true u o = record {
      reads = passes ∙ rw (mark u) (N.escapes q k (drop (k + 1) here) o);
      within = omega (arith, marked_in u);
      some = omega arith;
      few = rw (length-append, length-replicate) (omega arith);
    }
    go true false u o = record {
      reads = passes ∙ ap (next_argument (mode q) k) (mark u) ∙ N.halves q k (drop (k + 1) here) o ∙ rw (mark u);
      within = inside;
      some = some;
      few = rw length-replicate (omega arith);
    }
    go false c u o = record {
      reads = passes ∙ N.keeps q k (drop k here) (run_stops is_backslash here) u;
      within = inside;
      some = some;
      few = rw length-replicate (omega arith);
    }

-- a run of plain units
plain_steps : (q : Bool) (here : List ℕ) → 0 < leading (is_taken q) here → Steps q here (plain_step q (leading (is_taken q) here) here)
plain_steps q here some =
    let l : leading (is_taken q) here ≤ length here = leading_in (is_taken q) here in
    let t : length (take (leading (is_taken q) here) here) ≡ leading (is_taken q) here = length-take-le _ here l in
    record { reads = N.takes_run q here; within = l; some = some; few = omega arith }

-- any step at a unit that ends nothing
pub steps : (q : Bool) (x : ℕ) (xs : List ℕ) → is_end q x ≡ false → Steps q (x ∷ xs) (step_at q (x ∷ xs))
unfolding step_at starts_with leading
steps q x xs e = go (is_quote x) (is_backslash x) refl refl
  where
    go : (b c : Bool) → is_quote x ≡ b → is_backslash x ≡ c
        → Steps q (x ∷ xs) (pick b (mark_step q xs) (pick c (slashes_at q (x ∷ xs)) (plain_step q (leading (is_taken q) (x ∷ xs)) (x ∷ xs))))
    go true c u v = rw (eqb-true x 34 u) (mark_steps q xs)
    go false true u v = slash_steps q (x ∷ xs) (rw v (omega arith))
    go false false u v = plain_steps q (x ∷ xs) (rw (u, v, e) (omega arith))

-- ---- one step more

-- the same at a unit of a rest
pub steps_at : (q : Bool) (rest : List ℕ) (i : ℕ) → i < length rest → is_end q (get_or rest i 0) ≡ false → Steps q (drop i rest) (step_at q (drop i rest))
steps_at q rest i h e = rw (at rest i h) (steps q (get_or rest i 0) (drop (i + 1) rest) e)

-- what is left of an argument behind a step
pub turn : {rest before out after : List ℕ} {here there : Point} (s : OneStep) → Still later_argument rest before out here.used here.units here.quoted
    → Steps here.quoted (drop here.used rest) s → Stepped s here out after there → Still later_argument rest before after there.used there.units there.quoted
turn s r p t = rw (t.uses, t.counts, t.turns) (still.goes r s.used s.given p.reads p.within p.few t.stores)

-- ---- how the code takes it: a quote mark

module _ (rest before : List ℕ) (here : Point) where
  abbrev next_unit : ℕ
  next_unit = here.used + 1

  -- outside quotes
  pub opens : here.quoted ≡ false → Stepped (mark_step here.quoted (drop next_unit rest)) here before before (record { used = next_unit; units = here.units; quoted = true })
  opens e = rw e (record { uses = refl; counts = omega arith; turns = refl; stores = refl })

  -- inside, at the end of the line
  pub stays : here.quoted ≡ true → length rest ≤ next_unit
      → Stepped (mark_step here.quoted (drop next_unit rest)) here before before (record { used = next_unit; units = here.units; quoted = here.quoted })
  stays e l = rw (e, drop_of_length-le rest l) (record { uses = refl; counts = omega arith; turns = refl; stores = refl })

  -- inside, before a second one
  pub doubles : {after : List ℕ} → here.quoted ≡ true → next_unit < length rest → get_or rest next_unit 0 ≡ 34 → after ≡ set before here.units 34
      → Stepped (mark_step here.quoted (drop next_unit rest)) here before after (record { used = next_unit + 1; units = here.units + 1; quoted = here.quoted })
  unfolding starts_with
  doubles e h v w = rw (e, at_is rest next_unit 34 h v) (record { uses = omega arith; counts = refl; turns = refl; stores = w })

  -- inside, before another unit
  pub closes : here.quoted ≡ true → next_unit < length rest → (get_or rest next_unit 0 ≡ 34 → ⊥)
      → Stepped (mark_step here.quoted (drop next_unit rest)) here before before (record { used = next_unit; units = here.units; quoted = false })
  unfolding starts_with
  closes e h v = rw (e, at rest next_unit h, ne_eqb _ _ v) (record { uses = refl; counts = omega arith; turns = refl; stores = refl })

-- ---- a run of k backslashes

module _ (rest before : List ℕ) (here : Point) (k : ℕ) (e : k ≡ leading is_backslash (drop here.used rest)) where
  abbrev slashes_here : OneStep
  slashes_here = slashes_at here.quoted (drop here.used rest)

  abbrev behind : List ℕ
  behind = drop k (drop here.used rest)

  -- before anything but a quote mark
  pub literal : {after : List ℕ} → starts_with is_quote behind ≡ false → after ≡ sets before here.units (replicate k 92)
      → Stepped slashes_here here before after (record { used = here.used + k; units = here.units + k; quoted = here.quoted })
  literal u w = rw (← e, u) (record { uses = refl; counts = rw length-replicate; turns = refl; stores = w })

  -- an odd run, with the quote mark behind it
  pub escaped : {mid after : List ℕ} → starts_with is_quote behind ≡ true → k % 2 ≡ 1 → mid ≡ sets before here.units (replicate (k / 2) 92)
      → after ≡ set mid (here.units + k / 2) 34
      → Stepped slashes_here here before after (record { used = here.used + k + 1; units = here.units + k / 2 + 1; quoted = here.quoted })
  escaped u o m w =
      let half = slashes (k / 2) in
      let stored : sets before here.units (half ++ quote ∷ []) ≡ set (sets before here.units half) (here.units + length half) 34 = sets_append before here.units half (quote ∷ []) in
      rw (← e, u, eq-eqb _ _ o)
      (record {
        uses = omega arith;
        counts = simp (length-append, length-replicate) (omega arith);
        turns = refl;
        stores = w ∙ rw (m, stored, length-replicate);
      })

-- ---- any step, by the unit that stands there

module _ (rest : List ℕ) (here : Point) (h : here.used < length rest) where
  abbrev any_here : OneStep
  any_here = step_at here.quoted (drop here.used rest)

  abbrev unit : ℕ
  unit = get_or rest here.used 0

  quote_there : starts_with is_quote (drop here.used rest) ≡ is_quote unit
  unfolding starts_with
  quote_there = rw (at rest here.used h)

  slash_there : starts_with is_backslash (drop here.used rest) ≡ is_backslash unit
  unfolding starts_with
  slash_there = rw (at rest here.used h)

  -- a quote mark
  pub at_mark : {before after : List ℕ} {there : Point} → unit ≡ 34 → Stepped (mark_step here.quoted (drop (here.used + 1) rest)) here before after there
      → Stepped any_here here before after there
  unfolding step_at
  at_mark u t = rw (quote_there, u, drop-drop) t

  -- a backslash
  pub at_slash : {before after : List ℕ} {there : Point} → unit ≡ 92 → Stepped (slashes_at here.quoted (drop here.used rest)) here before after there
      → Stepped any_here here before after there
  unfolding step_at
  at_slash u t = rw (quote_there, slash_there, u) t

  -- neither: a run of plain units
  pub plain : {before after : List ℕ} (run : ℕ) → (unit ≡ 34 → ⊥) → (unit ≡ 92 → ⊥) → run ≡ leading (is_taken here.quoted) (drop here.used rest)
      → after ≡ sets before here.units (take run (drop here.used rest))
      → Stepped any_here here before after (record { used = here.used + run; units = here.units + run; quoted = here.quoted })
  unfolding step_at
  plain run u v e w =
      let l : leading (is_taken here.quoted) (drop here.used rest) ≤ length (drop here.used rest) = leading_in (is_taken here.quoted) (drop here.used rest) in
      let t : length (take run (drop here.used rest)) ≡ run = length-take-le run (drop here.used rest) (omega arith) in
      rw (quote_there, slash_there, ne_eqb _ _ u, ne_eqb _ _ v, ← e) (record { uses = refl; counts = omega arith; turns = refl; stores = w })
