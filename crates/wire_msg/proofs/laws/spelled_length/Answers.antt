use Rattle.wire_msg.proofs.ContentLaws.{length-spelled}
use Rattle.wire_msg.proofs.laws.spelled_length.Goals as goal

pub returns : goal.returns
returns c = length-spelled
