use Rattle.std.proofs.Common.{◌∙◌, ap}
use Rattle.wire_msg.specs.{header_of}
use Rattle.wire_msg.proofs.Lemmas.{header_of-take}
use Rattle.wire_frames.proofs.frame.RawFrame.header.Goals as goal

pub returns : goal.returns
returns c = c.read.ensures ∙ ap header_of c.in-Some.ensures.cases.0 ∙ header_of-take c.args.self.bytes.now
