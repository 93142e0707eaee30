use Rattle.replay.proofs.Counting.{told_both}
use Rattle.replay.proofs.replaying.Course.take_some.Goals as goal

pub returns-in-Some : goal.returns-in-Some
returns-in-Some g c = told_both _ _ _ c.loop.invariant c.in_ok-due.ensures.told
