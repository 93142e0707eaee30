use Rattle.wire_query.proofs.FaultLaws.{one_query_fault}
use Rattle.wire_query.proofs.laws.one_fault.Goals as goal

pub returns : goal.returns
returns c = one_query_fault
