use Rattle.std.proofs.Common.{refl, sym}
use Rattle.bson_json.specs.Json.{double_json}
use Rattle.bson_json.proofs.Choices.{exact_one}
use Rattle.bson_json.proofs.double.write_double.Goals as goal

pub returns : goal.returns
returns g c =
    rw (sym c.double_from_bytes-number.ensures)
    (exact_one c.write_text.result _ _ (double_json c.args.mode c.double_from_bytes-number.result c.as_bytes.result.now) _
    (c.as_bytes.result.now, rw c.as_bytes.ensures.value c.number_text-text.ensures, refl) c.write_text.ensures)
