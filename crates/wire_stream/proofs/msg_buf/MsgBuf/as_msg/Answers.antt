use Rattle.wire_stream.proofs.msg_buf.MsgBuf.as_msg.Goals as goal

pub from_spelled-requires : goal.from_spelled-requires
from_spelled-requires c = rw c.deref.ensures.value c.self.invariant
