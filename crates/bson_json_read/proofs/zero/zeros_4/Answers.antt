use Rattle.std.proofs.Common.{◌==◌, w8, arith}
use Rattle.std.proofs.lemmas.Simd.{bitmask_splat}
use Rattle.bson_json_read.proofs.zero.zeros_4.Goals as goal

pub returns : goal.returns
returns c = bitmask_splat w8 (λ a b. a == b) c.args.v 4 0 c.fits-v.0 (omega arith)
