use Rattle.std.proofs.Common.{◌≡◌, ◌∙◌, IsUtf8, subst, sym}
use Rattle.bson_raw.specs.RawDocument.{document_bytes}
use Rattle.bson_json.specs.declared.mode.Mode.TheVariants.{Canonical}
use Rattle.bson_json.specs.Json.{IsJson}
use Rattle.bson_json_read.proofs.DocumentBack.{document_utf8, read_again, read_of, written}
use Rattle.bson_json_read.proofs.laws.round_trip.Goals as goal

pub returns-in-Ok-clause-same : goal.returns-in-Ok-clause-same
returns-in-Ok-clause-same c t spelled lossless =
    let is = written c.write_json.result c.new-json.result.items c.write_json.new.out.items (IsJson Canonical t) (sym c.is_err.ensures.value ∙ c.if-is_err.false) c.new-json.ensures.items (c.write_json.ensures t spelled) in
    let same : c.write_json.new.out.items ≡ c.in-Ok.text.now = cc (c.in-Ok.ensures.cases.0, c.deref.ensures.value) in
    read_again t (document_bytes c.args.document) c.in-Ok.text.now c.from_json.result spelled lossless (subst (IsJson Canonical t) same is) c.from_json.ensures.ok c.from_json.ensures.err

pub returns-in-Ok-clause-read : goal.returns-in-Ok-clause-read
returns-in-Ok-clause-read c t spelled =
    let is = written c.write_json.result c.new-json.result.items c.write_json.new.out.items (IsJson Canonical t) (sym c.is_err.ensures.value ∙ c.if-is_err.false) c.new-json.ensures.items (c.write_json.ensures t spelled) in
    let same : c.write_json.new.out.items ≡ c.in-Ok.text.now = cc (c.in-Ok.ensures.cases.0, c.deref.ensures.value) in
    read_of t c.in-Ok.text.now c.from_json.result (subst (IsJson Canonical t) same is) c.from_json.ensures.ok

pub returns-clause-same : goal.returns-clause-same
returns-clause-same c t spelled lossless =
    let is = written c.write_json.result c.new-json.result.items c.write_json.new.out.items (IsJson Canonical t) (sym c.is_err.ensures.value ∙ c.if-is_err.false) c.new-json.ensures.items (c.write_json.ensures t spelled) in
    let same : c.write_json.new.out.items ≡ c.deref.result.now = cc c.deref.ensures.value in
    absurd (c.in-Err.ensures.cases.0 (subst IsUtf8 same (document_utf8 t (document_bytes c.args.document) c.write_json.new.out.items spelled lossless is)))
