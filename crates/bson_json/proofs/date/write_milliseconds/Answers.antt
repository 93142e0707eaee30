use Rattle.std.proofs.Common.{rules, ◌≡◌, OnOk, subst}
use Rattle.std.specs.Fmt.{signed_decimal}
use Rattle.std.specs.Io.KnownBytes.{Appends}
use Rattle.text_writer.specs.{text_contents}
use Rattle.bson_json.specs.Json.{date_digits}
use Rattle.bson_json.proofs.date.write_milliseconds.Goals as goal

pub returns : goal.returns
returns g c =
    let text : c.as_bytes.result.now ≡ signed_decimal c.args.ms = search (rules, c.as_bytes.ensures.value, c.format.ensures.text) in
    subst (λ x. OnOk c.write_date_digits.result (Appends (text_contents g.W.Write.contents c.args.out.now) (text_contents g.W.Write.contents c.write_date_digits.new.out) (date_digits x))) text c.write_date_digits.ensures
