use Rattle.std.proofs.Common.{◌∙◌, ap, sym}
use Rattle.std.specs.Prelude.{option_map}
use Rattle.bson_json_read.specs.Table.{data_value}
use Rattle.bson_json_read.proofs.Written.{texts_value}
use Rattle.bson_json_read.proofs.direct.put_binary_of.Goals as goal

pub returns-in-Ok-Some : goal.returns-in-Ok-Some
returns-in-Ok-Some c =
    let bytes = c.in-Ok-Some.bytes.items in
    let read = sym c.in-Ok-Some.ensures ∙ ap (option_map (λ v. v.items)) c.in-Ok-Some.field-0-is in
    λ is.
    let e = c.put_binary.ensures is in (
      data_value c.in-Some.subtype bytes,
      texts_value c.args.base64.now c.args.subtype.now bytes c.in-Some.subtype (sym c.in-Some.ensures) read,
      rw c.deref.ensures.value at e,
    )
