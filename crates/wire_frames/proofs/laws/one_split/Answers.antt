use Rattle.wire_frames.proofs.FrontLaws.{one_split}
use Rattle.wire_frames.proofs.laws.one_split.Goals as goal

pub returns : goal.returns
returns c = one_split
