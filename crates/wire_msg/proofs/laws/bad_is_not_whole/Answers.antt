use Rattle.wire_msg.proofs.StandingLaws.{bad_not_whole}
use Rattle.wire_msg.proofs.laws.bad_is_not_whole.Goals as goal

pub returns : goal.returns
returns c = bad_not_whole
