use Rattle.std.proofs.Common.{sym}
use Rattle.wire_msg.proofs.FrameLaws.{header_of-take}
use Rattle.wire_msg.proofs.laws.header_of_16_bytes.Goals as goal

pub returns : goal.returns
returns c = λ bytes. sym (header_of-take bytes)
