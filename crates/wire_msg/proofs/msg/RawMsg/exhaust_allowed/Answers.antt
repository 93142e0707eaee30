use Rattle.std.proofs.Common.{ap}
use Rattle.wire_msg.specs.declared.flags.MsgFlags.{MsgFlags}
use Rattle.wire_msg.proofs.msg.RawMsg.exhaust_allowed.Goals as goal

pub returns : goal.returns
returns c = λ m s. ap (λ (flags : MsgFlags). flags.exhaust_allowed) (c.flags.ensures m s)
