use Rattle.wire_msg.proofs.StandingLaws.{one_front}
use Rattle.wire_msg.proofs.laws.one_front.Goals as goal

pub returns : goal.returns
returns c = one_front
