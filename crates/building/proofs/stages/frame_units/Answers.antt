-- `building::stages::frame_units` meets its contract. Assumes nothing.
use mathlib.Core.Path.{◌∙◌}
use Rattle.building.proofs.Frame.{batch_frame, plain_frame}
use Rattle.building.proofs.stages.frame_units.Goals as goal
use Rattle.building.proofs.stages.frame_units.Goals.{then-batch, else-batch}

pub returns : goal.returns
returns c =
    elim c.if-batch.branch [
      | then-batch w ↦ rw w.if-batch.true (c.count_on.ensures ∙ rw w.around-is (batch_frame c.args.name.now))
      | else-batch w ↦ rw w.if-batch.false (c.count_on.ensures ∙ rw w.around-is (plain_frame c.args.name.now))
    ]
