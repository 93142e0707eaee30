use Rattle.std.proofs.Common.{◌≡◌, ◌∙◌, subst, sym}
use Rattle.std.proofs.lemmas.Slice.Eq.{bytes_eq-Decides}
use Rattle.bson_elem.specs.{Spells}
use Rattle.bson_raw.specs.{document_bytes}
use Rattle.wire_play.proofs.Rounds.{alone_if_none}
use Rattle.wire_play.proofs.loop_call.is_alone.Goals as goal

pub returns-then-eq : goal.returns-then-eq
returns-then-eq c = λ content t carries own.
    let equal : c.as_bytes.result.now ≡ c.as_bytes-2.result.now = (bytes_eq-Decides c.as_bytes.result.now c.as_bytes-2.result.now).0 (sym c.eq.ensures ∙ c.if-eq.true) in
    let same : document_bytes c.body.result ≡ document_bytes c.args.body = sym c.as_bytes.ensures.bytes ∙ equal ∙ c.as_bytes-2.ensures.bytes in
    let spelled = subst (Spells content.body) same (c.body.ensures content carries) in
    alone_if_none content t (document_bytes c.args.body) c.sequences.result c.next.new.self c.next.result c.is_none.result spelled own (c.sequences.ensures content carries) c.next.ensures.steps c.is_none.ensures
