use Rattle.wire_query.proofs.ReplyLaws.{length-reply, one_reply}
use Rattle.wire_query.proofs.laws.one_reply.Goals as goal

pub returns : goal.returns
returns c = record { one = one_reply; long = length-reply }
