-- Building a line as a state and its turns: the records of each pass, and the stage behind it. Assumes nothing.
use Rattle.std.specs.Prelude.{ℕ, ◌+◌, ◌≡◌, Bool, true, false, List, leb, ltb, length, Result, Ok, Err}
use Rattle.std.proofs.lemmas.List.Edits.{sets}
use Rattle.rules.specs.declared.Arg.{Arg}
use Rattle.rules.specs.declared.Refusal.{Refusal}
use Rattle.rules.specs.declared.Line.{Line}
use Rattle.rules.specs.Choice.{pick, both, any}
use Rattle.rules.specs.Unit.{is_nul}
use Rattle.rules.specs.Building.{is_no_script}
use Rattle.names.specs.Name.{name_of, head_of}
use Rattle.adding.specs.Limits.{limit_of, counted}
use Rattle.building.specs.declared.works.Pass.{Pass}
use Rattle.building.specs.declared.works.Pass.TheVariants.{Records, Units, Measure, Write}
use Rattle.building.specs.declared.works.Work.{Work}
use Rattle.building.specs.declared.works.Turn.{Turn}
use Rattle.building.specs.declared.works.Turn.TheVariants.{On, Done}
use Rattle.building.specs.Line.{end_of, frame_units}
use Rattle.building.specs.Passes.{passed, passed_out}

-- ---- from one state to another

-- at a record of the record pass
abbrev pub begun_at : Bool → Bool → ℕ → ℕ → Work
begun_at batch force count at = record { count = count; units = 0; at = at; style = record { batch = batch; force = force }; pass = Records }

-- at the first record of another pass
abbrev pub entered : Work → Pass → ℕ → Work
entered w pass units = record { count = w.count; units = units; at = 0; style = w.style; pass = pass }

-- at the next record, or refused
abbrev pub progressed : Work → Result ℕ Refusal → Result Work Refusal
progressed w (Ok units) = Ok (record { count = w.count; units = units; at = w.at + 1; style = w.style; pass = w.pass })
progressed w (Err r) = Err r

-- a turn behind which building goes on, or refused
abbrev pub going : Result Work Refusal → Result Turn Refusal
going (Ok w) = Ok (On w)
going (Err r) = Err r

-- ---- the stage behind a pass

-- behind the record pass: 7, then 5 for the name; then the units pass
abbrev pub after_records : List ℕ → Work → Result Work Refusal
after_records lent w =
    let name = name_of w.style.batch lent in
    let nul = pick (any is_nul name) (Err (Refusal.Nul 0)) (Ok (entered w Units (frame_units w.style.batch name))) in
    pick (both w.style.batch (is_no_script lent)) (Err Refusal.Script) nul

-- into writing
abbrev pub opened : List ℕ → Work → Work
opened lent w = entered w Write (length (head_of w.style.batch (name_of w.style.batch lent)))

-- the output then: what stands before the arguments
abbrev pub opened_out : List ℕ → Work → List ℕ → List ℕ
opened_out lent w out = sets out 0 (head_of w.style.batch (name_of w.style.batch lent))

-- the most that the line can take is neither past the limit nor past the room
abbrev pub surely_fits : Bool → ℕ → ℕ → Bool
surely_fits batch units room = both (leb units (limit_of batch)) (leb units room)

-- behind the units pass: into writing where the line surely fits, else into measuring
abbrev pub after_units : List ℕ → ℕ → Work → Work
after_units lent room w =
    pick (surely_fits w.style.batch w.units room) (opened lent w)
    (entered w Measure (frame_units w.style.batch (name_of w.style.batch lent)))

-- the output then
abbrev pub after_units_out : List ℕ → Work → List ℕ → List ℕ
after_units_out lent w out = pick (surely_fits w.style.batch w.units (length out)) (opened_out lent w out) out

-- where so many units pass the limit, or the room, one of two; else the third
abbrev pub fitted : {A : Type 0} → Bool → ℕ → ℕ → A → A → A → A
fitted batch room units long wide fits = pick (ltb (limit_of batch) units) long (pick (ltb room units) wide fits)

-- behind measuring: 2, then 4; else into writing
abbrev pub after_measuring : List ℕ → ℕ → Work → Result Work Refusal
after_measuring lent room w = fitted w.style.batch room w.units (Err Refusal.Length) (Err Refusal.Room) (Ok (opened lent w))

-- the output then
abbrev pub after_measuring_out : List ℕ → Work → List ℕ → List ℕ
after_measuring_out lent w out = fitted w.style.batch (length out) w.units out out (opened_out lent w out)

-- the units of a line with its end
abbrev pub ended : Bool → ℕ → ℕ
ended true units = counted units 1
ended false units = units

-- behind writing: the line is ended
abbrev pub after_writing : Work → Line
after_writing w = record { units = ended w.style.batch w.units }

-- the output then
abbrev pub after_writing_out : Work → List ℕ → List ℕ
after_writing_out w out = sets out w.units (end_of w.style.batch)

-- what a stage promises that stores
pub record Staged {A : Type 0} (work : A) (output : List ℕ) (r : A) (after : List ℕ) : Type 0 where
  pub works : r ≡ work
  pub stores : after ≡ output

-- ---- a turn

-- what taking a record promises
pub record TakenRecord (text : List ℕ) (a : Arg) (w : Work) (r : Result Work Refusal) (before after : List ℕ) : Type 0 where
  pub works : r ≡ progressed w (passed w.pass w.style text w.units (w.at + 1) a)
  pub stores : after ≡ passed_out w.pass w.style text w.units a before

-- the stage behind a pass
abbrev pub closed_in : Pass → List ℕ → ℕ → Work → Result Turn Refusal
closed_in Records lent room w = going (after_records lent w)
closed_in Units lent room w = Ok (On (after_units lent room w))
closed_in Measure lent room w = going (after_measuring lent room w)
closed_in Write lent room w = Ok (Done (after_writing w))

-- the output then
abbrev pub closed_out : Pass → List ℕ → Work → List ℕ → List ℕ
closed_out Records lent w out = out
closed_out Units lent w out = after_units_out lent w out
closed_out Measure lent w out = after_measuring_out lent w out
closed_out Write lent w out = after_writing_out w out

-- what closing a pass promises
pub record Closed (lent : List ℕ) (w : Work) (r : Result Turn Refusal) (before after : List ℕ) : Type 0 where
  pub works : r ≡ closed_in w.pass lent (length before) w
  pub stores : after ≡ closed_out w.pass lent w before

-- what a turn promises: it takes a record where one is left, else it closes the pass
pub record Turned (lent text : List ℕ) (a : Arg) (w : Work) (r : Result Turn Refusal) (before after : List ℕ) : Type 0 where
  pub works : r ≡ pick (ltb w.at w.count) (going (progressed w (passed w.pass w.style text w.units (w.at + 1) a))) (closed_in w.pass lent (length before) w)
  pub stores : after ≡ pick (ltb w.at w.count) (passed_out w.pass w.style text w.units a before) (closed_out w.pass lent w before)
