use Rattle.std.proofs.Common.{ap}
use Rattle.wire_msg.specs.declared.flags.MsgFlags.{MsgFlags}
use Rattle.wire_msg.proofs.msg.RawMsg.more_to_come.Goals as goal

pub returns : goal.returns
returns c = λ m s. ap (λ (flags : MsgFlags). flags.more_to_come) (c.flags.ensures m s)
