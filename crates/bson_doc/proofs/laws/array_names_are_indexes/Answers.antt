use Rattle.bson_doc.proofs.PlainLaws.{array_names}
use Rattle.bson_doc.proofs.laws.array_names_are_indexes.Goals as goal

pub returns : goal.returns
returns c = array_names
