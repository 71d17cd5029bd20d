-- `replies::places::put_run` meets its contract. Assumes nothing.
use mathlib.Core.List.{[], ◌∷◌}
use Rattle.replies.proofs.Putting.{run_is}
use Rattle.replies.proofs.places.put_run.Goals as goal

pub returns : goal.returns
returns c = rw (run_is c.args.run.now) at (c.put_each.ensures (λ x. x ∷ []) (λ d e q r x h. h.1))
