use Rattle.replay.proofs.Counting.{told_both}
use Rattle.replay.proofs.replaying.Course.play.Goals as goal

pub loop-preserved : goal.loop-preserved
loop-preserved g c = told_both _ _ _ c.loop.invariant (told_both _ _ _ c.in_ok-until.ensures c.in_ok-turn.ensures)
