use Rattle.bson_doc.specs.Document.{tree_of}
use Rattle.bson_doc.proofs.Owned.{read_back}
use Rattle.bson_doc.proofs.documents.Document.from_raw.Goals as goal

pub returns-clause-back : goal.returns-clause-back
returns-clause-back c = λ pairs spelled. read_back _ pairs (c.read_document.ensures.read (tree_of pairs) spelled) (c.read_document.ensures.refused (tree_of pairs) spelled)
