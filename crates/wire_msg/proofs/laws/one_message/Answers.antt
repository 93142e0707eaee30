use Rattle.wire_msg.proofs.StandingLaws.{one_message}
use Rattle.wire_msg.proofs.laws.one_message.Goals as goal

pub returns : goal.returns
returns c = one_message
