use Rattle.wire_msg.proofs.SplitLaws.{bad_ends}
use Rattle.wire_msg.proofs.laws.split_before_bad.Goals as goal

pub returns : goal.returns
returns c = bad_ends
