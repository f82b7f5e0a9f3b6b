use Rattle.painter.proofs.Painting.{merged_more}
use Rattle.painter.proofs.paint.Goals as goal

pub loop-change-preserved : goal.loop-change-preserved
loop-change-preserved c =
    merged_more _ _ _ c.changes-change-items.result.now c.loop-change.change-index _ c.loop-change.invariant c.loop-change-test.true c.paint_change.ensures
