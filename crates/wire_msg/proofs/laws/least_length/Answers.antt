use Rattle.wire_msg.proofs.StandingLaws.{least_length}
use Rattle.wire_msg.proofs.laws.least_length.Goals as goal

pub returns : goal.returns
returns c = least_length
