use Rattle.base64.proofs.EngineFacts.{encoded_prefix}
use Rattle.bson_json.proofs.text.write_base64_by.Goals as goal

pub returns-clause-written : goal.returns-clause-written
returns-clause-written g c =
    let is = encoded_prefix _ _ c.encode_slice.new.output _ _ _ _ c.encode_slice.auto.output c.encode_slice.ensures.fits c.encode_slice.ensures.too_small c.in-Ok.is c.in-Ok.ensures.written in
    rw is at c.write_all.ensures.bytes
