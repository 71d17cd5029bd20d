-- `arguments::read_first` meets its contract. Assumes nothing.
use mathlib.Core.Path.{◌∙◌, ◌≡◌, ap}
use mathlib.Core.Bool.{Bool, false}
use mathlib.Core.List.{List}
use Prim.Native.Nat.{ℕ, ◌+◌, ◌-◌}
use native.Mathlib.Omega.{arith}
use Rattle.std.proofs.lemmas.Bool.Decides.{nat_tests}
use lib.ListN.{drop, take}
use lib.Seq.{sets}
use Rattle.laws.specs.Run.{RunAt, part_run, run_at, starts_with, stops_at}
use Rattle.arguments.specs.Run.{is_kept}
use Rattle.arguments.specs.Next.{first_argument}
use Rattle.arguments.proofs.First as F
use Rattle.arguments.proofs.Still.{Still}
use Rattle.arguments.proofs.read_first.Goals.{After-kept_run-run}
use Rattle.arguments.proofs.read_first.Goals as goal

-- the run of units that are kept at i
run_is : (c : After-kept_run-run) → RunAt (is_kept c.loop-i.quoted) c.args.line.now c.loop-i.i c.kept_run-run.result
run_is c =
    let l = c.loop-i in
    run_at (is_kept l.quoted) c.args.line.now l.i l.invariant.within c.kept_run-run.ensures

-- no unit behind it is kept
stopped : (c : After-kept_run-run) → starts_with (is_kept c.loop-i.quoted) (drop (c.loop-i.i + c.kept_run-run.result) c.args.line.now) ≡ false
stopped c = stops_at (is_kept c.loop-i.quoted) c.args.line.now c.loop-i.i (run_is c).0

-- what is left behind a run, once it is copied
kept : {line before out after : List ℕ} {i n run : ℕ} {q : Bool} → Still first_argument line before out i n q → RunAt (is_kept q) line i run
    → after ≡ sets out n (take (i + run - i) (drop i line)) → Still first_argument line before after (i + run) (n + run) q
kept {line} {out = out} {i = i} {n = n} {run = run} s r w = F.keeps s run r.0 (w ∙ ap (sets out n) (part_run line i run))

pub overflow_add-end : goal.overflow_add-end
overflow_add-end c = omega (arith, run_is c)

pub slice_bounds-copy_run-end : goal.slice_bounds-copy_run-end
slice_bounds-copy_run-end c = omega (arith, run_is (goal.at.slice_bounds-copy_run-end c).After-kept_run-run)

pub returns-in-None : goal.returns-in-None
returns-in-None c =
    let g = c.in-None.ensures.lookup in
    F.finishes (kept c.loop-i.invariant (run_is (goal.at.returns-in-None c).After-kept_run-run) c.copy_run.ensures) (grind (arith, nat_tests, g))

pub returns-in-Some : goal.returns-in-Some
returns-in-Some c =
    let run = (goal.at.returns-in-Some c).After-kept_run-run in
    let g = c.in-Some.ensures.lookup in
    F.stops (kept c.loop-i.invariant (run_is run) c.copy_run.ensures) (grind (arith, nat_tests, g)) (grind (arith, nat_tests, g)) (stopped run)

pub loop-i-preserved : goal.loop-i-preserved
loop-i-preserved c =
    let g = c.in-Some-eq34.ensures.lookup in
    F.toggles (kept c.loop-i.invariant (run_is (goal.at.loop-i-preserved c).After-kept_run-run) c.copy_run.ensures) (grind (arith, nat_tests, g)) (grind (arith, nat_tests, g))

pub returns : goal.returns
returns c = F.finishes c.loop-i.invariant c.loop-i-test.false
