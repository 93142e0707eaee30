use Rattle.wire_frames.proofs.MessageLaws.{one_kind}
use Rattle.wire_frames.proofs.laws.one_kind.Goals as goal

pub returns : goal.returns
returns c = one_kind
