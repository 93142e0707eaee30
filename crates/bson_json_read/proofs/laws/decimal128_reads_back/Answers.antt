use Rattle.bson_json_read.proofs.DecimalBack.{decimal128_back}
use Rattle.bson_json_read.proofs.laws.decimal128_reads_back.Goals as goal

pub returns : goal.returns
returns c bytes are is = decimal128_back bytes are is
