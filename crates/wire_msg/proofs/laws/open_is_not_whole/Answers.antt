use Rattle.wire_msg.proofs.StandingLaws.{open_not_whole}
use Rattle.wire_msg.proofs.laws.open_is_not_whole.Goals as goal

pub returns : goal.returns
returns c = open_not_whole
