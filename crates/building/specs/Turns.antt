-- What building still owes at any of its turns, and one law for every turn: whoever drives the turns cites it. Assumes nothing.
use Prim.Native.Nat.{ℕ, ◌+◌, ◌-◌, ◌*◌, ◌≤◌, ◌<◌}
use Rattle.std.proofs.Common.{add-zero, lt_of_not-le, add-one, arith, ◌∙◌, ap, drop_of_length-le, drop-cons}
use Rattle.std.proofs.Math.Nat.{zero-add}
use Rattle.std.proofs.Math.Decide.{dec_le}
use borrow.Author.Tests.{lt-ltb, le-ltb, lt-leb, leb-true}
use Rattle.std.specs.Prelude.{◌≡◌, Bool, leb, get_or, drop, Result, Ok, Err}
use Rattle.std.proofs.Math.Path.{refl, sym}
use Rattle.std.proofs.Math.Bool.{true, false}
use mathlib.Core.List.{List, [], ◌∷◌, ◌++◌, map, append_assoc}
use Rattle.std.proofs.Math.ListN.{length, length-append}
use Rattle.std.proofs.lemmas.List.Edits.{sets}
use Rattle.rules.specs.declared.Arg.{Arg}
use Rattle.rules.specs.declared.Refusal.{Refusal}
use Rattle.rules.specs.declared.Line.{Line}
use Rattle.rules.specs.Choice.{pick, both, any}
use Rattle.rules.specs.Unit.{is_nul}
use Rattle.rules.specs.Outcome.{Outcome, done, refused, refuse, sound, wrong_if, fault_at, fault_from, first_fault, unless}
use Rattle.rules.specs.Record.{Argument, argument_of, argument_finding}
use Rattle.rules.specs.Building.{is_no_script}
use Rattle.rules.specs.Answer.{refusal, refusal_said, built_said, Answered}
use Rattle.laws.specs.Store.{sets_append, sets_front}
use Rattle.laws.specs.Placed.{Left, less_left}
use Rattle.names.specs.Name.{name_of, head_of}
use Rattle.records.specs.Records.{is_wrong, no_arg}
use Rattle.adding.specs.declared.styles.Style.{Style}
use Rattle.adding.specs.Limits.{limit_of, count_cap, counted, cap_covers}
use Rattle.adding.specs.Judged.{breaks_line, most_units}
use Rattle.adding.specs.Added.{stored, piece}
use Rattle.adding.specs.Counts.{counted_below, counted_whole, counted_twice, counted_most, counted_none, counted_sum, counted_past, counted_is}
use Rattle.building.specs.declared.works.Pass.{Pass}
use Rattle.building.specs.declared.works.Pass.TheVariants.{Records, Units, Measure, Write}
use Rattle.building.specs.declared.works.Work.{Work}
use Rattle.building.specs.declared.works.Turn.{Turn}
use Rattle.building.specs.declared.works.Turn.TheVariants.{On, Done}
use Rattle.building.specs.Line.{end_of, frame_units, row_of, whole_line, units_finding, line_limited, line_named}
use Rattle.building.specs.Passes.{passed, passed_out}
use Rattle.building.specs.Works.{entered, going, progressed, opened, opened_out, ended, closed_in, closed_out, Turned}
use Rattle.building.specs.Rows.{most_of, row_most, whole_length}

-- a line ends with its end
pub ended_is : (batch : Bool) (units : ℕ) → units + length (end_of batch) < count_cap → ended batch units ≡ units + length (end_of batch)
ended_is true units h = counted_below units 1 h
ended_is false units h = sym (add-zero units)

module _ (o : Outcome (List ℕ)) (lent text : List ℕ) (all : List Arg) (first : List ℕ) where
  -- ---- what is owed at a record of a pass, where `left` are the records that it has not taken

  -- the arguments of records
  abbrev args_of : List Arg → List Argument
  args_of records = map (argument_of text) records

  -- the whole line
  abbrev whole : Style → List ℕ
  whole s = whole_line s (name_of s.batch lent) (args_of all)

  -- the record pass owes the fault of the records, then all that follows
  pub record OwesRecords (s : Style) (place : ℕ) (left : List Arg) (out : List ℕ) : Type 0 where
    pub owes : o ≡ unless (fault_from (argument_finding text) place left) (line_named s lent (args_of all) (length first))
    pub kept : out ≡ first

  -- the units pass owes the fault of the arguments, then limit and room; what is counted covers the line
  pub record OwesUnits (s : Style) (place : ℕ) (left : List Arg) (units : ℕ) (out : List ℕ) : Type 0 where
    pub owes : o ≡ unless (fault_from (units_finding s.batch) place (args_of left)) (line_limited s lent (args_of all) (length first))
    pub covers : units < count_cap → length (whole s) ≤ units + most_of s.batch (args_of left)
    pub kept : out ≡ first

  -- measuring owes limit and room; what is counted and what is left are the line
  pub record OwesMeasure (s : Style) (left : List Arg) (units : ℕ) (out : List ℕ) : Type 0 where
    pub owes : o ≡ line_limited s lent (args_of all) (length first)
    pub counts : counted units (length (row_of s (args_of left))) ≡ counted 0 (length (whole s))
    pub capped : units ≤ count_cap
    pub kept : out ≡ first

  -- writing owes what is left of the line, which fits
  pub record OwesWrite (s : Style) (left : List Arg) (units : ℕ) (out : List ℕ) : Type 0 where
    pub owes : o ≡ done (whole s)
    pub short : length (whole s) < count_cap
    pub fits : length (whole s) ≤ length first
    pub rest : Left (whole s) 0 first (row_of s (args_of left) ++ end_of s.batch) units out

  -- what a pass owes at a record with its place
  abbrev pub Owes : Pass → Style → ℕ → List Arg → ℕ → List ℕ → Type 0
  Owes Records s place left units out = OwesRecords s place left out
  Owes Units s place left units out = OwesUnits s place left units out
  Owes Measure s place left units out = OwesMeasure s left units out
  Owes Write s place left units out = OwesWrite s left units out

  -- where building stands between two turns: it owes what its pass owes
  pub record Stands (w : Work) (out : List ℕ) : Type 0 where
    pub counts : w.count ≡ length all
    pub within : w.at ≤ length all
    pub due : Owes w.pass w.style (w.at + 1) (drop w.at all) w.units out

  -- a refusal is answered, and nothing has changed
  pub refused_here : (r : Refusal) {number place : ℕ} {out : List ℕ} → refusal_said r ≡ refusal number place → o ≡ refused number place → out ≡ first
      → Answered o (refusal_said r) first out
  refused_here r said e kept = record { says = rw e said; leaves = rw e kept }

  -- ---- a record

  -- what a record makes of what is owed: it goes on, or it is answered
  data Going (pass : Pass) (s : Style) (place : ℕ) (rest : List Arg) (out : List ℕ) : Result ℕ Refusal → Type 0 where
    on : {units : ℕ} → Owes pass s place rest units out → Going pass s place rest out (Ok units)
    over : {r : Refusal} → Answered o (refusal_said r) first out → Going pass s place rest out (Err r)

  module _ (s : Style) (place : ℕ) (a : Arg) (rest : List Arg) (units : ℕ) (out : List ℕ) where
    -- 1
    record_goes : OwesRecords s place (a ∷ rest) out → Going Records s (place + 1) rest out (passed Records s text units place a)
    unfolding fault_from
    record_goes h = go (is_wrong text a) h.owes
      where
        go : (b : Bool) → o ≡ unless (fault_at place (wrong_if 1 b sound) (fault_from (argument_finding text) (place + 1) rest)) (line_named s lent (args_of all) (length first))
            → Going Records s (place + 1) rest out (pick b (Err (Refusal.Record place)) (Ok units))
        go true e = over (refused_here (Refusal.Record place) refl e h.kept)
        go false e = on (record { owes = e; kept = h.kept })

    -- 6, then 5; else the most that the argument can take is counted
    units_goes : OwesUnits s place (a ∷ rest) units out → Going Units s (place + 1) rest out (passed Units s text units place a)
    unfolding fault_from
    units_goes h = go (breaks_line s.batch (argument_of text a)) (any is_nul (argument_of text a).content) h.owes
      where
        most : ℕ
        most = most_units s.batch (length (argument_of text a).content)

        covers : counted units most < count_cap → length (whole s) ≤ counted units most + most_of s.batch (args_of rest)
        covers l = let (e, l') = counted_whole units most l in omega (arith, h.covers l')

        go : (b c : Bool)
            → o ≡ unless (fault_at place (wrong_if 6 b (wrong_if 5 c sound)) (fault_from (units_finding s.batch) (place + 1) (args_of rest))) (line_limited s lent (args_of all) (length first))
            → Going Units s (place + 1) rest out (pick b (Err (Refusal.LineBreak place)) (pick c (Err (Refusal.Nul place)) (Ok (counted units most))))
        go true c e = over (refused_here (Refusal.LineBreak place) refl e h.kept)
        go false true e = over (refused_here (Refusal.Nul place) refl e h.kept)
        go false false e = on (record { owes = e; covers = covers; kept = h.kept })

    -- the argument as it is written
    abbrev one : List ℕ
    one = piece s (argument_of text a)

    -- a form is counted
    measure_goes : OwesMeasure s (a ∷ rest) units out → OwesMeasure s rest (counted units (length one)) out
    measure_goes h =
        record {
          owes = h.owes;
          counts = rw counted_twice (rw (length-append one (row_of s (args_of rest))) at h.counts);
          capped = counted_most units (length one);
          kept = h.kept;
        }

    -- a form is written
    write_goes : OwesWrite s (a ∷ rest) units out → OwesWrite s rest (counted units (length one)) (stored out units one)
    unfolding stored
    write_goes h =
        let l : Left (whole s) 0 first (one ++ (row_of s (args_of rest) ++ end_of s.batch)) units out
        = rw (append_assoc one (row_of s (args_of rest)) (end_of s.batch)) at h.rest in
        let k = rw length-append at l.counts in
        let n = h.short in
        let c : counted units (length one) ≡ units + length one = counted_below units (length one) (omega arith) in
        let e = lt-leb count_cap units (omega arith) in
        rw (c, e) (record { owes = h.owes; short = h.short; fits = h.fits; rest = less_left {a = one} l (record { ends = refl; stores = refl }) })

  -- any record
  goes : (pass : Pass) (s : Style) (place : ℕ) (a : Arg) (rest : List Arg) (units : ℕ) (out : List ℕ) → Owes pass s place (a ∷ rest) units out
      → Going pass s (place + 1) rest (passed_out pass s text units a out) (passed pass s text units place a)
  goes Records s place a rest units out h = record_goes s place a rest units out h
  goes Units s place a rest units out h = units_goes s place a rest units out h
  goes Measure s place a rest units out h = on (measure_goes s place a rest units out h)
  goes Write s place a rest units out h = on (write_goes s place a rest units out h)

  -- ---- turns that are left

  -- the passes that are not done
  abbrev rank : Pass → ℕ
  rank Records = 4
  rank Units = 3
  rank Measure = 2
  rank Write = 1

  -- how many turns are left
  abbrev pub turns_left : Work → ℕ
  turns_left w = rank w.pass * (length all + 1) - w.at

  -- what a turn at a record of a pass comes to: building stands, with fewer turns left, or it has answered
  abbrev pub Nearer : Pass → ℕ → Result Turn Refusal → List ℕ → Type 0
  Nearer pass at (Ok (On w)) out = Stands w out × (turns_left w < rank pass * (length all + 1) - at)
  Nearer pass at (Ok (Done line)) out = Answered o (built_said (Ok line)) first out
  Nearer pass at (Err r) out = Answered o (built_said (Err r)) first out

  -- a record taken is a turn less
  take_less : (pass : Pass) (n at : ℕ) → at < n → rank pass * (n + 1) - (at + 1) < rank pass * (n + 1) - at
  take_less Records n at h = omega arith
  take_less Units n at h = omega arith
  take_less Measure n at h = omega arith
  take_less Write n at h = omega arith

  -- a turn that takes a record
  takes : (w : Work) (a : Arg) (out : List ℕ) → w.count ≡ length all → w.at < length all → a ≡ get_or all w.at no_arg
      → Owes w.pass w.style (w.at + 1) (drop w.at all) w.units out
      → Nearer w.pass w.at (going (progressed w (passed w.pass w.style text w.units (w.at + 1) a))) (passed_out w.pass w.style text w.units a out)
  takes w a out counts l e h =
      let left : drop w.at all ≡ a ∷ drop (w.at + 1) all = rw (e, add-one w.at) (drop-cons all w.at no_arg l) in
      go (goes w.pass w.style (w.at + 1) a (drop (w.at + 1) all) w.units out (rw left at h))
    where
      go : {p : Result ℕ Refusal} {out' : List ℕ} → Going w.pass w.style (w.at + 1 + 1) (drop (w.at + 1) all) out' p → Nearer w.pass w.at (going (progressed w p)) out'
      go (on h') = (record { counts = counts; within = omega (arith, l); due = h' }, take_less w.pass (length all) w.at l)
      go (over h') = h'

  -- ---- the stage behind a pass

  -- a line that fits is built
  line_fits : (s : Style) → length (whole s) ≤ limit_of s.batch → length (whole s) ≤ length first → line_limited s lent (args_of all) (length first) ≡ done (whole s)
  unfolding line_limited
  line_fits s h g = rw (le-ltb (limit_of s.batch) (length (whole s)) h, le-ltb (length first) (length (whole s)) g)

  -- one that is too long is refused by 2
  line_long : (s : Style) → limit_of s.batch < length (whole s) → line_limited s lent (args_of all) (length first) ≡ refused 2 0
  unfolding line_limited
  line_long s h = rw (lt-ltb (limit_of s.batch) (length (whole s)) h)

  -- one without the room by 4
  line_wide : (s : Style) → length (whole s) ≤ limit_of s.batch → length first < length (whole s) → line_limited s lent (args_of all) (length first) ≡ refused 4 0
  unfolding line_limited
  line_wide s h g = rw (le-ltb (limit_of s.batch) (length (whole s)) h, lt-ltb (length first) (length (whole s)) g)

  -- what stands round the arguments, with the most that they can take, covers the line
  frame_covers : (s : Style) → frame_units s.batch (name_of s.batch lent) < count_cap
      → length (whole s) ≤ frame_units s.batch (name_of s.batch lent) + most_of s.batch (args_of all)
  unfolding frame_units
  frame_covers s l =
      let (e, _) = counted_whole (length (head_of s.batch (name_of s.batch lent))) (length (end_of s.batch)) l in
      omega (arith, whole_length s (name_of s.batch lent) (args_of all), row_most s (args_of all))

  -- counted with the arguments it is the line
  frame_counts : (s : Style) → counted (frame_units s.batch (name_of s.batch lent)) (length (row_of s (args_of all))) ≡ counted 0 (length (whole s))
  unfolding frame_units
  frame_counts s =
      let head = length (head_of s.batch (name_of s.batch lent)) in
      let sum : head + (length (end_of s.batch) + length (row_of s (args_of all))) ≡ length (whole s) = omega (arith, whole_length s (name_of s.batch lent) (args_of all)) in
      rw counted_twice (counted_sum head (length (end_of s.batch) + length (row_of s (args_of all))) (length (whole s)) sum)

  -- it is within the cap
  frame_capped : (s : Style) → frame_units s.batch (name_of s.batch lent) ≤ count_cap
  unfolding frame_units
  frame_capped s = counted_most (length (head_of s.batch (name_of s.batch lent))) (length (end_of s.batch))

  module _ (w : Work) (out : List ℕ) (counts : w.count ≡ length all) (within : w.at ≤ length all) where
    -- the style of the line
    abbrev s : Style
    s = w.style

    -- 7, then 5 for the name; then the units pass
    close_records : {place : ℕ} → OwesRecords s place [] out → Nearer Records w.at (closed_in Records lent (length out) w) out
    unfolding fault_from line_named
    close_records h = go (both s.batch (is_no_script lent)) (any is_nul (name_of s.batch lent)) h.owes
      where
        go : (b c : Bool)
            → o ≡ refuse 7 b (refuse 5 c (unless (first_fault (units_finding s.batch) (args_of all)) (line_limited s lent (args_of all) (length first))))
            → Nearer Records w.at
            (going (pick b (Err Refusal.Script) (pick c (Err (Refusal.Nul 0)) (Ok (entered w Units (frame_units s.batch (name_of s.batch lent))))))) out
        go true c e = refused_here Refusal.Script refl e h.kept
        go false true e = refused_here (Refusal.Nul 0) refl e h.kept
        go false false e = (record { counts = counts; within = omega arith; due = record { owes = e; covers = frame_covers s; kept = h.kept } }, omega arith)

    -- into writing a line that fits
    opens : out ≡ first → o ≡ line_limited s lent (args_of all) (length first) → length (whole s) ≤ limit_of s.batch → length (whole s) ≤ length first
        → Stands (opened lent w) (opened_out lent w out)
    unfolding whole_line
    opens kept owes h g =
        let head = head_of s.batch (name_of s.batch lent) in
        let row = row_of s (args_of all) in
        let z : 0 + length head ≡ length head = zero-add _ in
        let l : Left (head ++ row ++ end_of s.batch) 0 first (row ++ end_of s.batch) (length head) (sets out 0 head)
        = record {
          counts = simp length-append (omega arith);
          stores = rw (kept, append_assoc head row (end_of s.batch), sets_append first 0 head (row ++ end_of s.batch), z);
        } in
        record {
          counts = counts;
          within = omega arith;
          due = record { owes = owes ∙ line_fits s h g; short = omega (arith, cap_covers s.batch); fits = g; rest = l };
        }

    -- where the line surely fits nothing is measured
    close_units : {place : ℕ} → OwesUnits s place [] w.units out → Nearer Units w.at (closed_in Units lent (length out) w) (closed_out Units lent w out)
    unfolding fault_from
    close_units h = go (leb w.units (limit_of s.batch)) (leb w.units (length out)) refl refl
      where
        measured : Nearer Units w.at (Ok (On (entered w Measure (frame_units s.batch (name_of s.batch lent))))) out
        measured =
            (record { counts = counts; within = omega arith; due = record { owes = h.owes; counts = frame_counts s; capped = frame_capped s; kept = h.kept } }, omega arith)

        go : (b c : Bool) → leb w.units (limit_of s.batch) ≡ b → leb w.units (length out) ≡ c
            → Nearer Units w.at (Ok (On (pick (both b c) (opened lent w) (entered w Measure (frame_units s.batch (name_of s.batch lent)))))) (pick (both b c) (opened_out lent w out) out)
        go true true p q =
            let l = leb-true w.units (limit_of s.batch) p in
            let r = leb-true w.units (length out) q in
            let k = ap length h.kept in
            let m = h.covers (omega (arith, cap_covers s.batch)) in
            (opens h.kept h.owes (omega arith) (omega arith), omega arith)
        go true false p q = measured
        go false c p q = measured

    -- 2, then 4; else into writing
    close_measure : OwesMeasure s [] w.units out → Nearer Measure w.at (closed_in Measure lent (length out) w) (closed_out Measure lent w out)
    close_measure h = go (dec_le w.units (limit_of s.batch))
      where
        counted_all : w.units ≡ counted 0 (length (whole s))
        counted_all = sym (counted_none w.units h.capped) ∙ h.counts

        same : length out ≡ length first
        same = ap length h.kept

        fitting : w.units ≤ limit_of s.batch → w.units ≡ length (whole s) → Dec (w.units ≤ length out)
            → Nearer Measure w.at (closed_in Measure lent (length out) w) (closed_out Measure lent w out)
        fitting l e (no n) =
            let r = lt_of_not-le n in
            let d = refused_here Refusal.Room refl (h.owes ∙ line_wide s (omega arith) (omega (arith, same))) h.kept in
            rw (le-ltb (limit_of s.batch) w.units l, lt-ltb (length out) w.units r) d
        fitting l e (yes r) =
            rw (le-ltb (limit_of s.batch) w.units l, le-ltb (length out) w.units r)
            (opens h.kept h.owes (omega arith) (omega (arith, same)), omega arith)

        go : Dec (w.units ≤ limit_of s.batch) → Nearer Measure w.at (closed_in Measure lent (length out) w) (closed_out Measure lent w out)
        go (no n) =
            let l = lt_of_not-le n in
            let d = refused_here Refusal.Length refl (h.owes ∙ line_long s (counted_past _ _ w.units counted_all l)) h.kept in
            rw (lt-ltb (limit_of s.batch) w.units l) d
        go (yes l) = fitting l (counted_is (limit_of s.batch) _ w.units counted_all l (cap_covers s.batch)) (dec_le w.units (length out))

    -- the line is ended
    close_write : OwesWrite s [] w.units out → Nearer Write w.at (closed_in Write lent (length out) w) (closed_out Write lent w out)
    close_write h =
        let k = h.rest.counts in
        let n = h.short in
        let e : ended s.batch w.units ≡ length (whole s) = ended_is s.batch w.units (omega arith) ∙ omega arith in
        record { says = rw (h.owes, e); leaves = rw h.owes (h.rest.stores ∙ sets_front first (whole s) h.fits) }

    -- any stage
    closes : (pass : Pass) (place : ℕ) → Owes pass s place [] w.units out → Nearer pass w.at (closed_in pass lent (length out) w) (closed_out pass lent w out)
    closes Records place h = close_records h
    closes Units place h = close_units h
    closes Measure place h = close_measure h
    closes Write place h = close_write h

  -- ---- any turn

  -- a turn leaves building where it stands, with fewer turns left, or it has answered
  pub turns : {w : Work} {r : Result Turn Refusal} {a : Arg} {before after : List ℕ} → Stands w before → (w.at < length all → a ≡ get_or all w.at no_arg)
      → Turned lent text a w r before after → Nearer w.pass w.at r after
  turns {w} {r} {a} {before} {after} s e t = go (dec_le (length all) w.at)
    where
      go : Dec (length all ≤ w.at) → Nearer w.pass w.at r after
      go (no n) =
          let l = lt_of_not-le n in
          let test = lt-ltb w.at w.count (rw s.counts l) in
          rw (rw test at t.works, rw test at t.stores) (takes w a before s.counts l (e l) s.due)
      go (yes l) =
          let test = le-ltb w.at w.count (rw s.counts l) in
          rw (rw test at t.works, rw test at t.stores)
          (closes w before s.counts s.within w.pass (w.at + 1) (rw (drop_of_length-le all l) at s.due))

  -- behind the last turn building has answered
  pub stands_last : {w : Work} {line : Line} {a : Arg} {before after : List ℕ} → Stands w before → (w.at < length all → a ≡ get_or all w.at no_arg)
      → Turned lent text a w (Ok (Done line)) before after → Answered o (built_said (Ok line)) first after
  stands_last s e t = turns s e t
