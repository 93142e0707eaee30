use Rattle.std.proofs.lemmas.Simd.{zip2_of_maps, zip2_splat, zip2_splat_left}
use lib.Bits.{bit_or}
use Rattle.bson_json_read.proofs.Lanes.{begin_mask, below, up_to}
use Rattle.bson_json_read.proofs.place.begins.Goals as goal

pub returns : goal.returns
returns c =
    let v = c.args.v in
    let long = c.fits-v.0 in
    begin_mask v _ long c.fits-v.1 (zip2_of_maps bit_or _ _ v (zip2_splat below v 16 128 long) (zip2_splat_left up_to 192 16 v long))
