use Rattle.wire_msg.proofs.SplitLaws.{one_split}
use Rattle.wire_msg.proofs.laws.one_split.Goals as goal

pub returns : goal.returns
returns c = one_split
