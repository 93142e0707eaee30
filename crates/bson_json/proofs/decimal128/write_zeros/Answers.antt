use Rattle.bson_json.proofs.Zeros.{zero_written}
use Rattle.bson_json.proofs.decimal128.write_zeros.Goals as goal

pub loop-preserved : goal.loop-preserved
loop-preserved g c = zero_written _ _ _ c.loop.counter c.loop.invariant c.in_ok-write_all.ensures.bytes
