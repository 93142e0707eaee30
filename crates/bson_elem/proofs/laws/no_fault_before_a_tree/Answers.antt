use Rattle.std.proofs.Common.{◌++◌, refl}
use Rattle.bson_elem.proofs.FrontLaws.{no_front}
use Rattle.bson_elem.proofs.laws.no_fault_before_a_tree.Goals as goal

pub returns : goal.returns
returns c = λ t a rest f fits s. no_front (a ++ rest) t a rest f fits s refl
