-- `arguments::steps::read_slashes` meets its contract. Assumes nothing.
use native.Mathlib.Omega.{arith}
use mathlib.Core.Path.{◌∙◌, ◌≡◌, ap, sym}
use mathlib.Core.Bool.{Bool}
use mathlib.Core.List.{List}
use Prim.Native.Nat.{ℕ, ◌+◌, ◌-◌}
use lib.ListN.{drop, length, take}
use lib.Seq.{drop-drop}
use Rattle.rules.specs.Unit.{is_backslash, is_quote}
use Rattle.laws.specs.Store.{part_is}
use Rattle.laws.specs.Run.{RunAt, run_at, starts_with}
use Rattle.arguments.proofs.Step.{escaped}
use Rattle.arguments.proofs.steps.read_slashes.Goals.{After-backslashes-k}
use Rattle.arguments.proofs.steps.read_slashes.Goals as goal

-- the run of backslashes at the point
run_is : (c : After-backslashes-k) → RunAt is_backslash c.args.rest.now c.args.here.used c.backslashes-k.result
run_is c = run_at is_backslash c.args.rest.now c.args.here.used (omega (arith, c.requires)) c.backslashes-k.ensures

-- whether a quote mark stands behind it
quote_is : (rest : List ℕ) (i k : ℕ) {b : Bool} → b ≡ starts_with is_quote (take (length rest - (i + k)) (drop (i + k) rest)) → starts_with is_quote (drop k (drop i rest)) ≡ b
quote_is rest i k e = rw drop-drop (ap (starts_with is_quote) (sym (part_is (i + k) rest)) ∙ sym e)

pub overflow_add-end : goal.overflow_add-end
overflow_add-end c = omega (arith, run_is c)

pub offset_bounds-rest-end : goal.offset_bounds-rest-end
offset_bounds-rest-end c = omega (arith, run_is (goal.at.offset_bounds-rest-end c).After-backslashes-k)

pub slice_bounds-starts_with_quote-count : goal.slice_bounds-starts_with_quote-count
slice_bounds-starts_with_quote-count c = omega (arith, run_is (goal.at.slice_bounds-starts_with_quote-count c).After-backslashes-k)

pub slice_bounds-starts_with_quote-start : goal.slice_bounds-starts_with_quote-start
slice_bounds-starts_with_quote-start c = omega (arith, run_is (goal.at.slice_bounds-starts_with_quote-start c).After-backslashes-k)

pub overflow_add-result : goal.overflow_add-result
overflow_add-result c = omega (arith, run_is (goal.at.overflow_add-result c).After-backslashes-k)

pub overflow_add-result-then-k-eq1 : goal.overflow_add-result-then-k-eq1
overflow_add-result-then-k-eq1 c = omega (arith, run_is (goal.at.overflow_add-result-then-k-eq1 c).After-backslashes-k)

pub returns-then-k-eq1 : goal.returns-then-k-eq1
returns-then-k-eq1 c =
    let a = c.args in
    let r = run_is (goal.at.returns-then-k-eq1 c).After-backslashes-k in
    escaped a.rest.now a.out.now a.here _ r.0 (quote_is a.rest.now a.here.used _ c.starts_with_quote.ensures ∙ c.if-not-starts_with_quote.false) c.if-k-eq1.true c.repeat-2.ensures c.put.ensures
