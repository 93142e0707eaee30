use Rattle.std.proofs.Common.{◌∙◌}
use mathlib.Core.Logic.{∥∥₁_map}
use Rattle.std.proofs.lemmas.List.{take_rest}
use Rattle.wire_msg.proofs.OffsetLaws.{parts_at, document_at_offset, msg_parts}
use Rattle.wire_msg.proofs.msg.RawMsg.payload.Goals as goal

pub from_spelled-body-requires : goal.from_spelled-body-requires
from_spelled-body-requires c = ∥∥₁_map c.args.self.spelled (document_at_offset c.args.self.bytes.now c.body_offset-at.result c.body_end-next.result c.body_offset-at.ensures.offset c.body_end-next.ensures.end)

pub of_parts-requires : goal.of_parts-requires
of_parts-requires c =
    ∥∥₁_map c.args.self.spelled (λ k.
    let p = parts_at k.0 c.args.self.bytes.now k.1 c.body_offset-at.result c.body_end-next.result (c.body_offset-at.ensures.offset k.0 k.1) (c.body_end-next.ensures.end k.0 k.1) in
    (k.0.content, msg_parts k.0 c.args.self.bytes.now _ _ _ k.1 p.0 (c.from_spelled-body.ensures ∙ p.1) (take_rest c.args.self.bytes.now c.body_end-next.result ∙ p.2)))

pub returns : goal.returns
returns c = λ m s.
    let p = parts_at m c.args.self.bytes.now s c.body_offset-at.result c.body_end-next.result (c.body_offset-at.ensures.offset m s) (c.body_end-next.ensures.end m s) in
    c.of_parts.ensures m.content (msg_parts m c.args.self.bytes.now _ _ _ s p.0 (c.from_spelled-body.ensures ∙ p.1) (take_rest c.args.self.bytes.now c.body_end-next.result ∙ p.2))
