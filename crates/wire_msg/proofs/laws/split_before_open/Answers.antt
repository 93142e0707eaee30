use Rattle.wire_msg.proofs.SplitLaws.{open_ends}
use Rattle.wire_msg.proofs.laws.split_before_open.Goals as goal

pub returns : goal.returns
returns c = open_ends
