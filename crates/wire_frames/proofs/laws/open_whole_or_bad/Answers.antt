use Rattle.wire_frames.proofs.FrontLaws.{stands}
use Rattle.wire_frames.proofs.laws.open_whole_or_bad.Goals as goal

pub returns : goal.returns
returns c = stands c.args.limit c.args.bytes.now c.front.result c.front.ensures.front
