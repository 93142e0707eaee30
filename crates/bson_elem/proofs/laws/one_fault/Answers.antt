use Rattle.bson_elem.proofs.FrontLaws.{one_front}
use Rattle.bson_elem.proofs.laws.one_fault.Goals as goal

pub returns : goal.returns
returns c = one_front
