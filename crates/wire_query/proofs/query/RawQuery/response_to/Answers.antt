use Rattle.std.proofs.Common.{◌≡◌, ◌∙◌, ap, ℤ, to_z, of_z}
use Rattle.std.specs.Int.{w32}
use Rattle.std.proofs.lemmas.Int.{to_z-of_z}
use Rattle.wire_msg.specs.declared.header.MsgHeader.{MsgHeader}
use Rattle.wire_query.proofs.ReadLaws.{query_read}
use Rattle.wire_query.proofs.query.RawQuery.response_to.Goals as goal

pub returns : goal.returns
returns c = λ q s.
    let is : c.header.result.response_to ≡ q.response_to = ap (λ (h : MsgHeader). h.response_to) c.header.ensures ∙ (query_read q c.args.self.bytes.now s).response_to in
    ap (λ (z : ℤ). to_z w32 (of_z w32 z)) is ∙ to_z-of_z w32 q.response_to s.response_to
