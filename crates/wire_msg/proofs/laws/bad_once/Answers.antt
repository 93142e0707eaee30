use Rattle.wire_msg.proofs.StandingLaws.{bad_once}
use Rattle.wire_msg.proofs.laws.bad_once.Goals as goal

pub returns : goal.returns
returns c = bad_once
