use Rattle.std.proofs.Common.{length, ap, refl}
use Rattle.bson_stream.proofs.Salvages.{bad_front, front_document}
use Rattle.bson_stream.proofs.seek.checked.Goals as goal

pub returns-in-Ok : goal.returns-in-Ok
returns-in-Ok c =
    let found = c.in-Ok.ensures.found in
    front_document c.args.limit c.args.bytes.now c.in-Ok.front.document.bytes.now c.in-Ok.front.rest.now c.in-Ok.front.canonical _ found.0 found.1 c.in-Ok.ensures.canonical c.requires.within (ap length c.as_bytes.ensures.bytes)

pub returns-in-Err : goal.returns-in-Err
returns-in-Err c =
    bad_front c.args.limit c.args.start c.args.ended c.args.bytes.now c.in-Err.fault _ (λ i. (c.type_inv.bytes i).fits) c.in-Err.ensures.fault c.requires.within c.requires.decided refl
