use Rattle.wire_msg.proofs.StandingLaws.{bad_longer}
use Rattle.wire_msg.proofs.laws.bad_stays_bad.Goals as goal

pub returns : goal.returns
returns c = bad_longer
