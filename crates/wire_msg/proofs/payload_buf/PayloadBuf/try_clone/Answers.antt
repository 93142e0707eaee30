use Rattle.std.proofs.Common.{[], sym, ◌∙◌}
use Rattle.wire_msg.specs.Payload.{IsPayload}
use Rattle.wire_msg.proofs.payload_buf.PayloadBuf.try_clone.Goals as goal

pub invariant_of-result : goal.invariant_of-result
invariant_of-result c =
    let b = c.in_ok-body.ensures.items ∙ c.deref.ensures.value in
    let s = c.in_ok-sequences.ensures.items ∙ c.deref-2.ensures.value in
    let v : ∥ IsPayload [] c.in_ok-body.body.items c.in_ok-sequences.sequences.items ∥₁ = rw (b, s) c.args.self.now.valid in
    record { valid = v; last_is = λ qs fits are. c.args.self.now.last_is qs fits (sym s ∙ are) }
