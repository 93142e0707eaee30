use Rattle.std.proofs.Common.{◌+◌, ◌-◌, ◌%◌, ◌≤◌, leb, cond, length, refl, arith}
use Rattle.std.proofs.lemmas.Simd.{zip2_of_maps, zip2_splat, splat_is_map, length-chunk}
use lib.Lanes.{chunk}
use Rattle.bson_elem.proofs.LaneLaws.{stop_offset}
use Rattle.bson_elem.proofs.NameLaws.{near_offset}
use Rattle.bson_elem.proofs.text.near_zero_wide.Goals as goal

pub bounds-bytes-n : goal.bounds-bytes-n
bounds-bytes-n c =
    let d = c.args.bytes.now in
    let v = chunk 0 16 d in
    let room : 16 ≤ length d = omega arith in
    let long = length-chunk 0 16 d room in
    let s = stop_offset d _ _ room c.type_inv.bytes (zip2_of_maps (λ a b. cond (leb a b) 255 0) _ _ v (splat_is_map v 16 127 long) (zip2_splat (λ a b. (a + (256 - b)) % 256) v 16 1 long)) refl c.if-stops-eq0.false in
    omega (arith, s.0)

pub returns-then-bytes-n-eq0 : goal.returns-then-bytes-n-eq0
returns-then-bytes-n-eq0 c =
    let d = c.args.bytes.now in
    let v = chunk 0 16 d in
    let room : 16 ≤ length d = omega arith in
    let long = length-chunk 0 16 d room in
    let s = stop_offset d _ _ room c.type_inv.bytes (zip2_of_maps (λ a b. cond (leb a b) 255 0) _ _ v (splat_is_map v 16 127 long) (zip2_splat (λ a b. (a + (256 - b)) % 256) v 16 1 long)) refl c.if-stops-eq0.false in
    near_offset d _ (omega (arith, s.0)) s.1 c.if-bytes-n-eq0.true
