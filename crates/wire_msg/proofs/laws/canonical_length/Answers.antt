use Rattle.wire_msg.proofs.WriteLaws.{length-canonical}
use Rattle.wire_msg.proofs.laws.canonical_length.Goals as goal

pub returns : goal.returns
returns c = length-canonical
