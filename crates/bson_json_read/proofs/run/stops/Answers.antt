use Rattle.std.proofs.lemmas.Simd.{zip2_of_maps, zip2_splat}
use lib.Bits.{bit_or}
use Rattle.bson_json_read.proofs.Lanes.{below, hit, stop_mask}
use Rattle.bson_json_read.proofs.run.stops.Goals as goal

pub returns : goal.returns
returns c =
    let v = c.args.v in
    let long = c.fits-v.0 in
    stop_mask v _ long c.fits-v.1
    (zip2_of_maps bit_or _ _ v (zip2_of_maps bit_or _ _ v (zip2_splat hit v 16 34 long) (zip2_splat hit v 16 92 long)) (zip2_splat below v 16 32 long))
