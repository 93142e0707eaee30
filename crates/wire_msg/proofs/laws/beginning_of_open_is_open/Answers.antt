use Rattle.wire_msg.proofs.StandingLaws.{open_shorter}
use Rattle.wire_msg.proofs.laws.beginning_of_open_is_open.Goals as goal

pub returns : goal.returns
returns c = open_shorter
