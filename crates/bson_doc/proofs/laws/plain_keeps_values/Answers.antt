use Rattle.std.proofs.Common.{false}
use Rattle.bson_doc.proofs.PlainLaws.{values-kept}
use Rattle.bson_doc.proofs.laws.plain_keeps_values.Goals as goal

pub returns : goal.returns
returns c = values-kept false 0
