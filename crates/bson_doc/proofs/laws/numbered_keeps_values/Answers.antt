use Rattle.std.proofs.Common.{true}
use Rattle.bson_doc.proofs.PlainLaws.{values-kept}
use Rattle.bson_doc.proofs.laws.numbered_keeps_values.Goals as goal

pub returns : goal.returns
returns c = values-kept true 0
