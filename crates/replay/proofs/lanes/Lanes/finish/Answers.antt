use Rattle.replay.proofs.Counting.{told_both}
use Rattle.replay.proofs.lanes.Lanes.finish.Goals as goal

pub loop-i-preserved : goal.loop-i-preserved
loop-i-preserved g c = told_both _ _ _ c.loop-i.invariant c.in_ok-finish_one.ensures
