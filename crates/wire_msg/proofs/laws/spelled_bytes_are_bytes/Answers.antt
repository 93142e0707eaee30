use Rattle.wire_msg.proofs.ByteLaws.{msg_are_bytes, joined_are_bytes}
use Rattle.wire_msg.proofs.laws.spelled_bytes_are_bytes.Goals as goal

pub returns : goal.returns
returns c = record { one = msg_are_bytes; joined = joined_are_bytes }
