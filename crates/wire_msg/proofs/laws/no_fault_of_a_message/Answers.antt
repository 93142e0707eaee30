use Rattle.wire_msg.proofs.MsgAnswers.{no_msg_fault}
use Rattle.wire_msg.proofs.laws.no_fault_of_a_message.Goals as goal

pub returns : goal.returns
returns c = no_msg_fault
