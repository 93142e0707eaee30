use Rattle.wire_msg.proofs.StandingLaws.{open_inside}
use Rattle.wire_msg.proofs.laws.beginning_of_a_message_is_open.Goals as goal

pub returns : goal.returns
returns c = open_inside
