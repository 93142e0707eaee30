use Rattle.wire_serve.specs.Slots.{Receives, tells}
use Rattle.wire_serve.proofs.Steps.{ends, receives}
use Rattle.wire_serve.proofs.slot.Slot.receive.Goals as goal

pub returns-in-Ok-Bytes : goal.returns-in-Ok-Bytes
returns-in-Ok-Bytes g c =
    let s = c.self.inside in
    let found = rw c.in-Ok-Bytes.field-0-is at c.in-Ok-Bytes.ensures.found in
    let came = c.in-Ok-Bytes.ensures.received in
    rw (← c.self.view_is) (
      Receives c.pull.new.self,
      receives (tells g.L.Link.received g.L.Link.sent g.L.Link.ends g.L.Link.waits g.L.Link.failures) s.conn s.link c.pull.new.link s.inlet c.pull.new.self came.0
          (rw (← c.self.view_is) at c.requires.ready) (rw (← c.self.view_is) at c.requires.none) found.0 came.1 came.2 c.in-Ok-Bytes.ensures.sent,
      tt,
    )

pub returns-in-Ok-End : goal.returns-in-Ok-End
returns-in-Ok-End g c =
    let s = c.self.inside in
    let found = rw c.in-Ok-End.field-0-is at c.in-Ok-End.ensures.found in
    let came = c.in-Ok-End.ensures.received in
    rw (← c.self.view_is) (ends (tells g.L.Link.received g.L.Link.sent g.L.Link.ends g.L.Link.waits g.L.Link.failures) c.standing.result s.conn c.end.new.self s.link c.pull.new.link s.inlet c.pull.new.self came.0
    (rw (← c.self.view_is) at c.requires.ready) (rw (← c.self.view_is) at c.requires.none) found.0 found.1 came.1 came.2 c.in-Ok-End.ensures.sent
    c.end.ensures c.standing.ensures)
