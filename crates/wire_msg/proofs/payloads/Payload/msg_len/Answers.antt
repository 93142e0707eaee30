use Rattle.std.proofs.Common.{◌+◌, List, ℕ, length, ap, arith, ◌∙◌}
use Rattle.bson_raw.specs.RawDocument.{document_bytes}
use Rattle.wire_msg.proofs.OffsetLaws.{payload_len, payload_short}
use Rattle.wire_msg.proofs.payloads.Payload.msg_len.Goals as goal

pub overflow_add-sections-3 : goal.overflow_add-sections-3
overflow_add-sections-3 c =
    let short = payload_short c.args.self.before.now (document_bytes c.args.self.body) c.args.self.after.now c.args.self.valid in
    omega (arith, short, ap length c.as_bytes.ensures.bytes)

pub overflow_add-result : goal.overflow_add-result
overflow_add-result c =
    let short = payload_short c.args.self.before.now (document_bytes c.args.self.body) c.args.self.after.now c.args.self.valid in
    omega (arith, short, ap length c.as_bytes.ensures.bytes)

pub returns : goal.returns
returns c = λ content p.
    ap (λ (x : List ℕ). 20 + (length c.args.self.before.now + 1 + length x + length c.args.self.after.now)) c.as_bytes.ensures.bytes ∙ payload_len c.args.self.before.now (document_bytes c.args.self.body) c.args.self.after.now content p
