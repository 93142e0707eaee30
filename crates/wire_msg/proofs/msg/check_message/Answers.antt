use Rattle.std.proofs.Common.{ℕ}
use Rattle.wire_msg.specs.declared.fault.MsgFault.{MsgFault}
use Rattle.wire_msg.specs.Spelling.{IsMessage}
use Rattle.wire_msg.specs.Faults.{FaultMsg, of_parts, IsFramedMsg, PartsFault}
use Rattle.wire_msg.proofs.MsgLaws.{short_msg, decided}
use Rattle.wire_msg.proofs.msg.check_message.Goals as goal

pub check_parts-requires : goal.check_parts-requires
check_parts-requires g c = short_msg c.args.limit c.args.bytes.now c.requires c.in_ok-check_framed.ensures

pub returns : goal.returns
returns g c =
    let framed = c.in_ok-check_framed.ensures in
    decided c.check_parts.result ((limit : ℕ) → IsFramedMsg limit c.args.bytes.now → IsMessage limit c.args.bytes.now) (λ (f : MsgFault). PartsFault c.args.bytes.now f) (IsMessage c.args.limit c.args.bytes.now) (λ (f : MsgFault). FaultMsg c.args.bytes.now c.args.limit f)
    (λ is. is c.args.limit framed) (λ f fault. of_parts framed fault) c.check_parts.ensures
