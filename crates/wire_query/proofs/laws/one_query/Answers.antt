use Rattle.wire_query.proofs.ReadLaws.{one_query}
use Rattle.wire_query.proofs.laws.one_query.Goals as goal

pub returns : goal.returns
returns c = one_query
