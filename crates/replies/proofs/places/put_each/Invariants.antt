-- The invariant of `replies::places::put_each`. Assumes nothing.
use mathlib.Core.List.{List}
use Prim.Native.Nat.{ℕ}
use lib.ListN.{drop}
use Rattle.forms.specs.Form.{each}
use Rattle.replies.specs.Page.{Puts}
use Rattle.replies.proofs.Putting.{Still}
use Rattle.replies.proofs.places.put_each.Given as goal

abbrev pub invariant-loop-item : goal.invariant-loop-item
invariant-loop-item g l =
    (form : _ → List ℕ) → ((d e : _) (q r : _) (x : _) → goal.F-post g l.put_one d q x r e → Puts (form x) q r d.now e.now)
    → Still (each form l.list) (each form (drop l.item-index l.list)) l.initial.to l.to l.initial.piece l.piece
