use Rattle.replay.proofs.Counting.{told_both}
use Rattle.replay.proofs.lanes.Lanes.turn.Goals as goal

pub loop-preserved : goal.loop-preserved
loop-preserved g c = told_both _ _ _ c.loop.invariant c.in_ok-step.ensures.told

pub returns-then-not-branch : goal.returns-then-not-branch
returns-then-not-branch g c = told_both _ _ _ c.loop.invariant c.in_ok-step.ensures.told
