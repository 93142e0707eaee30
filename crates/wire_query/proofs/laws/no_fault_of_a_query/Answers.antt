use Rattle.wire_query.proofs.FaultLaws.{no_query_fault}
use Rattle.wire_query.proofs.laws.no_fault_of_a_query.Goals as goal

pub returns : goal.returns
returns c = no_query_fault
