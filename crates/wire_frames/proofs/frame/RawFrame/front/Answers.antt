use Rattle.wire_frames.proofs.FrontLaws.{told_all}
use Rattle.wire_frames.proofs.frame.RawFrame.front.Goals as goal

pub returns-clause-whole : goal.returns-clause-whole
returns-clause-whole c = (told_all c.args.limit c.args.bytes.now c.read_front.result c.read_front.ensures).whole
