use Rattle.wire_msg.proofs.MsgAnswers.{one_msg_fault}
use Rattle.wire_msg.proofs.laws.one_fault.Goals as goal

pub returns : goal.returns
returns c = one_msg_fault
