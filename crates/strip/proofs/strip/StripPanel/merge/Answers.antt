use Rattle.std.proofs.Common.{arith}
use Rattle.strip.proofs.Steps.{merged_put}
use Rattle.strip.proofs.strip.StripPanel.merge.Goals as goal

pub loop-place-preserved : goal.loop-place-preserved
loop-place-preserved c =
    merged_put _ _ _ _ c.loop-place.place-index (record { place = 0; cell = 0 }) c.loop-place.invariant c.loop-place-test.true (search (arith, c.put.ensures.forty))
