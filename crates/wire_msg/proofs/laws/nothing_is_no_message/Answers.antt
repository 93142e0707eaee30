use Rattle.wire_msg.proofs.StandingLaws.{no_message}
use Rattle.wire_msg.proofs.laws.nothing_is_no_message.Goals as goal

pub returns : goal.returns
returns c = no_message
