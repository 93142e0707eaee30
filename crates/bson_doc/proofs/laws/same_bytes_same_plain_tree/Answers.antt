use Rattle.bson_doc.specs.Plain.{plain}
use Rattle.bson_doc.proofs.PlainLaws.{one_tree}
use Rattle.bson_doc.proofs.laws.same_bytes_same_plain_tree.Goals as goal

pub returns : goal.returns
returns c = λ t u bytes s s'. one_tree (plain t) (plain u) bytes s s'
