use Rattle.wire_serve.specs.Slots.{tells}
use Rattle.wire_serve.proofs.Steps.{idles}
use Rattle.wire_serve.proofs.slot.Slot.set_gate.Goals as goal

pub returns-clause-idle : goal.returns-clause-idle
returns-clause-idle g c =
    let s = c.self.inside in
    rw (← c.self.view_is) (idles (tells g.L.Link.received g.L.Link.sent g.L.Link.ends g.L.Link.waits g.L.Link.failures) s.conn s.link c.set_gate.new.self s.inlet
    c.set_gate.ensures.received c.set_gate.ensures.sent)
