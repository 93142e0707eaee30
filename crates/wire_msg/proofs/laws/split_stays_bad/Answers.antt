use Rattle.wire_msg.proofs.SplitLaws.{bad_goes_on}
use Rattle.wire_msg.proofs.laws.split_stays_bad.Goals as goal

pub returns : goal.returns
returns c = bad_goes_on
