use Rattle.bson_doc.proofs.PlainLaws.{names-kept}
use Rattle.bson_doc.proofs.laws.plain_keeps_names.Goals as goal

pub returns : goal.returns
returns c = names-kept 0
