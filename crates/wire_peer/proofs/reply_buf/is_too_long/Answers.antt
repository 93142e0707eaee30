use Rattle.std.proofs.Common.{◌≡◌, nat_lt}
use Rattle.wire_msg.specs.{message_len}
use Rattle.std.proofs.Common.{ap}
use Rattle.std.proofs.Math.Bool.{Bool-set}
use Rattle.wire_peer.proofs.ContentLaws.{of_buf_content}
use Rattle.wire_peer.proofs.reply_buf.is_too_long.Goals as goal

-- src/reply_buf.rt:122:1
pub returns : goal.returns
returns c =
    of_buf_content c.args.answer.now {P = λ k. nat_lt c.args.limit c.msg_len.result ≡ nat_lt c.args.limit (message_len k)} (Bool-set _ _)
    (λ k held. ap (nat_lt c.args.limit) (c.msg_len.ensures k (c.as_payload.ensures k held)))
