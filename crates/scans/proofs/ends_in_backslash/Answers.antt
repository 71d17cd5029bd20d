-- `scans::ends_in_backslash` meets its contract. Assumes nothing.
use Rattle.std.proofs.Common.{refl, ap, ◌∙◌}
use Rattle.scans.proofs.Runs.{last_is_backslash, lent_last, last_ends}
use Rattle.scans.proofs.ends_in_backslash.Goals as goal

pub returns : goal.returns
returns c =
    c.eq.ensures ∙ lent_last c.last.result _ refl ∙ ap last_is_backslash c.last.ensures.value ∙ last_ends c.args.units.now
