use Rattle.wire_frames.proofs.MessageLaws.{one_checksum}
use Rattle.wire_frames.proofs.laws.one_checksum.Goals as goal

pub returns : goal.returns
returns c = one_checksum
