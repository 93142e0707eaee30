use Rattle.replay.proofs.MatchingLaws.{recorded_in_order}
use Rattle.replay.proofs.laws.each_is_told_once.Goals as goal

pub returns : goal.returns
returns c = recorded_in_order
