use Rattle.std.proofs.Common.{◌≡◌, ◌∙◌, ◌%◌, length, arith}
use Rattle.bson_json.proofs.Base64.{all_written, chunk_written}
use Rattle.bson_json.proofs.text.write_base64.Goals as goal

pub loop-rest-preserved : goal.loop-rest-preserved
loop-rest-preserved g c =
    let whole : length c.split_at.result.0.now % 3 ≡ 0 = omega arith in
    (c.in_ok-write_base64_by.ensures.size ∙ c.loop-rest.invariant.0, chunk_written _ _ _ _ _ _ _ c.split_at.ensures.by_index.0 whole c.loop-rest.invariant.1 c.in_ok-write_base64_by.ensures.written)

pub returns : goal.returns
returns g c = all_written _ _ _ _ _ _ c.loop-rest.invariant.1 c.write_base64_by-2.ensures.written
