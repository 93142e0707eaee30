use Rattle.std.proofs.Common.{sym, subst, ap, ◌∙◌}
use Rattle.slab.specs.Slab.{get}
use Rattle.wire_serve.specs.{IsGated, tells}
use Rattle.server_core.specs.Serving.{gate_after, reply_flow}
use Rattle.server_core.proofs.Steps.{steered_by}
use Rattle.server_core.proofs.serving.Serving.steer.Goals as goal

pub returns-clause-steered : goal.returns-clause-steered
returns-clause-steered g c =
    let t = tells g.L.Link.received g.L.Link.sent g.L.Link.ends g.L.Link.waits g.L.Link.failures in
    let slots = c.args.self.now.conns.slots in
    steered_by g.H.Handler.does g.H.Handler.stops t g.L.Gated.gate (reply_flow (get slots c.args.key) c.args.self.now.replies.flow) c.in-Some.flow c.args.key c.in-Some-slot.slot.now c.set_gate.result slots c.set_gate.new.self.slots
    (sym c.in-Some.ensures) (sym c.in-Some-slot.ensures)
    (subst (λ to. IsGated t g.L.Gated.gate c.args.key to c.set_gate.result slots c.set_gate.new.self.slots)
    (c.gate_after.ensures ∙ ap (gate_after c.in-Some.flow) (c.gate-gate.ensures ∙ ap g.L.Gated.gate c.link.ensures)) c.set_gate.ensures.gated)
