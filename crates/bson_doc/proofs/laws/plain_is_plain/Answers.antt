use Rattle.std.proofs.Common.{false}
use Rattle.bson_doc.proofs.PlainLaws.{plain-again}
use Rattle.bson_doc.proofs.laws.plain_is_plain.Goals as goal

pub returns : goal.returns
returns c = plain-again false 0
