use Rattle.wire_msg.proofs.StandingLaws.{open_not_bad}
use Rattle.wire_msg.proofs.laws.open_is_not_bad.Goals as goal

pub returns : goal.returns
returns c = open_not_bad
