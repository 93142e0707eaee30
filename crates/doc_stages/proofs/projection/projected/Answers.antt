use Rattle.std.proofs.Common.{map}
use Rattle.bson_doc.specs.Bson.{value_of}
use Rattle.doc_stages.proofs.Keeping.{all_kept_by}
use Rattle.doc_stages.proofs.projection.projected.Goals as goal

pub returns-then-is_empty : goal.returns-then-is_empty
returns-then-is_empty c = all_kept_by c.args.projection.now (map value_of c.args.documents.items) (c.is_empty.ensures.0 c.if-is_empty.true)
