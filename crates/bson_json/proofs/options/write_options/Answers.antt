use Rattle.std.proofs.Common.{OnOk, subst}
use Rattle.std.specs.Io.KnownBytes.{Appends}
use Rattle.json.specs.Print.{quoted}
use Rattle.text_writer.specs.{text_contents}
use Rattle.bson_json.proofs.Escaped.{quoted_end}
use Rattle.bson_json.proofs.Ordered.{in_order_written}
use Rattle.bson_json.proofs.options.write_options.Goals as goal

pub returns : goal.returns
returns g c =
    let before = text_contents g.W.Write.contents c.args.out.now in
    let after = text_contents g.W.Write.contents c.write_all-2.new.self in
    subst (λ text. OnOk c.write_all-2.result (Appends before after (quoted text))) (in_order_written c.is_out_of_order.result c.as_bytes-bytes.result.now c.args.options.now c.if-not-is_out_of_order.false c.as_bytes-bytes.ensures.value c.is_out_of_order.ensures.cases)
    (quoted_end c.write_all-2.result before _ _ after _ c.in_ok-write_all.ensures.bytes c.in_ok-write_in_order.ensures c.write_all-2.ensures.bytes)
