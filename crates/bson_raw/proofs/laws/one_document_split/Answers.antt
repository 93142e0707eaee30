use Rattle.bson_raw.proofs.Splits.{same_split}
use Rattle.bson_raw.proofs.laws.one_document_split.Goals as goal

pub returns : goal.returns
returns c = same_split
