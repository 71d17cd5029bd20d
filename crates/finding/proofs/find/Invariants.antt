-- The invariant and the measure of `finding::find`. Assumes nothing.
use Prim.Native.Nat.{◌≤◌}
use mathlib.Core.List.{List}
use Rattle.rules.specs.Key.{key_of}
use Rattle.keys.specs.Lent.{launch_of}
use Rattle.rules.specs.Cache.{CacheEntry}
use Rattle.rules.specs.Store.{Represents}
use Rattle.finding.proofs.Search.{Searched}
use Rattle.finding.proofs.find.Given as goal

abbrev pub invariant-loop-i : goal.invariant-loop-i
invariant-loop-i l = (l.i ≤ l.n) × ((es : List CacheEntry) → Represents l.places l.index l.units es → Searched l.fingerprint (key_of (launch_of l.lent)) es l.i)
