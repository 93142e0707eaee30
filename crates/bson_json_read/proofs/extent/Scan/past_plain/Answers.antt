use Rattle.std.proofs.Common.{refl}
use Rattle.bson_json_read.proofs.Scans.{past_plain}
use Rattle.bson_json_read.proofs.extent.Scan.past_plain.Goals as goal

pub returns-clause-passed : goal.returns-clause-passed
returns-clause-passed c = past_plain c.args.self _ c.args.text.now c.requires c.in-Quoted.is refl refl c.plain_end.ensures.value
