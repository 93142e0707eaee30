use Rattle.bson_json_read.proofs.Written.{binary_form}
use Rattle.bson_json_read.proofs.direct.write_binary.Goals as goal

pub returns : goal.returns
returns c =
    λ is.
    let put = c.put_binary_of.ensures is in
    binary_form c.args.name.now _ _ _ _ c.in-Some.base64.now c.in-Some-text_named.subtype.now put.0 (cc (c.if-not-take.ensures, c.in-Some.ensures, c.in-Some-text_named.ensures, c.if-not-take-2.ensures, c.if-not-take-3.ensures)) put.1 put.2
