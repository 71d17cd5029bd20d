-- What stands before the arguments of a line, stored part by part. Assumes nothing.
use Prim.Native.Nat.{ℕ, suc, ◌+◌, ◌≤◌}
use native.Mathlib.Nat.{zero-add}
use native.Mathlib.Numerals.{add-one}
use native.Mathlib.Omega.{arith}
use mathlib.Core.Path.{◌≡◌, sym}
use mathlib.Core.Bool.{Bool, true, false}
use mathlib.Core.List.{List, ◌++◌}
use lib.ListN.{length, set, length-append}
use lib.Seq.{sets}
use Rattle.rules.specs.Unit.{units, quote}
use Rattle.rules.specs.Quoting.{enclosed}
use Rattle.rules.specs.Building.{batch_front}
use Rattle.laws.specs.Store.{sets_append}
use Rattle.laws.specs.Placed.{Appended}
use Rattle.names.specs.Name.{front_of, head_of}

-- the front has 28 units, or none
pub front_short : (batch : Bool) → length (front_of batch) ≤ 28
unfolding front_of batch_front units
front_short true = omega arith
front_short false = omega arith

-- units between two quotes behind a front, as they are stored
pub enclosed_stored : (out front name : List ℕ)
    → sets out 0 (front ++ enclosed name) ≡ set (sets (set (sets out 0 front) (length front) quote) (length front + 1) name) (length front + 1 + length name) quote
enclosed_stored out front name =
    let z : 0 + length front ≡ length front = zero-add _ in
    let e : length front + suc (length name) ≡ suc (length front) + length name = omega arith in
    rw (sets_append out 0 front (enclosed name), z, sets_append, add-one (length front), e)

-- front, quote, name, quote
pub head_stored : (batch : Bool) (name : List ℕ) {out front opened named closed : List ℕ} {at : ℕ} → Appended (front_of batch) at out front → opened ≡ set front at quote
    → named ≡ sets opened (at + 1) name → closed ≡ set named (at + 1 + length name) quote
    → Appended (head_of batch name) (at + 1 + length name + 1) out closed
unfolding head_of
head_stored batch name {out} {front} {opened} {named} {closed} {at} f o n c =
    let k = f.counts in
    record { counts = simp length-append (omega arith); stores = rw (c, n, o, f.stores, k) (sym (enclosed_stored out (front_of batch) name)) }
