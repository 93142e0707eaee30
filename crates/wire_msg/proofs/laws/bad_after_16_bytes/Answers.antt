use Rattle.wire_msg.proofs.StandingLaws.{bad_early}
use Rattle.wire_msg.proofs.laws.bad_after_16_bytes.Goals as goal

pub returns : goal.returns
returns c = bad_early
