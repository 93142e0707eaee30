use Rattle.wire_msg.proofs.SplitLaws.{goes_on}
use Rattle.wire_msg.proofs.laws.split_goes_on.Goals as goal

pub returns : goal.returns
returns c = goes_on
