-- What the loop of `pages::Page::put_units` keeps. Assumes nothing.
use Rattle.std.proofs.Common.{◌≤◌}
use Rattle.pages.proofs.Page.put_units.Given as goal

abbrev pub invariant-loop-unit : goal.invariant-loop-unit
invariant-loop-unit l = l.initial.self.len ≤ l.self.len
