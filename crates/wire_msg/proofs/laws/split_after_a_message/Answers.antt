use Rattle.wire_msg.proofs.SplitLaws.{whole_first}
use Rattle.wire_msg.proofs.laws.split_after_a_message.Goals as goal

pub returns : goal.returns
returns c = whole_first
