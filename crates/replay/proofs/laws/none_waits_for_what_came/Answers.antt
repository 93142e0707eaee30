use Rattle.replay.proofs.MatchingLaws.{one_sided}
use Rattle.replay.proofs.laws.none_waits_for_what_came.Goals as goal

pub returns : goal.returns
returns c = one_sided
