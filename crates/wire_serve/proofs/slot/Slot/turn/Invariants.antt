use Rattle.wire_serve.specs.Slots.{tells}
use Rattle.wire_serve.proofs.Runs.{SoFar}
use Rattle.wire_serve.proofs.slot.Slot.turn.Given as goal

abbrev pub invariant-loop-i : goal.invariant-loop-i
invariant-loop-i g l =
    SoFar g.H.Handler.does g.H.Handler.stops (tells g.L.Link.received g.L.Link.sent g.L.Link.ends g.L.Link.waits g.L.Link.failures) l.i l.fn.self l.fn.logged l.self l.logged
