use Rattle.wire_share.proofs.Answering.{answered}
use Rattle.wire_share.proofs.laws.connections_are_answered_in_order.Goals as goal

pub returns : goal.returns
returns c = λ connection acts now run. answered connection acts now run
