use Rattle.wire_msg.proofs.SplitLaws.{messages_first}
use Rattle.wire_msg.proofs.laws.split_after_messages.Goals as goal

pub returns : goal.returns
returns c = messages_first
