use Rattle.std.proofs.Common.{◌<◌, List, ℕ, length, subst, sym, take}
use Rattle.wire_serve.specs.ServerConnections.{ConnTakes}
use Rattle.wire_serve.specs.Slots.{tells}
use Rattle.wire_serve.proofs.Steps.{some_length, takes}
use Rattle.wire_serve.proofs.slot.Slot.take.Goals as goal

pub returns-in-Ok : goal.returns-in-Ok
returns-in-Ok g c =
    let s = c.self.inside in
    let n : ℕ = c.in-Ok.n in
    let ready = rw (← c.self.view_is) at c.requires.ready in
    let some = rw (← c.self.view_is) at c.requires.some in
    let long = subst (λ (b : List ℕ). 0 < length b) (sym c.bytes.ensures.bytes) (some_length s.inlet some) in
    rw (← c.self.view_is) (takes (tells g.L.Link.received g.L.Link.sent g.L.Link.ends g.L.Link.waits g.L.Link.failures) c.standing.result s.conn c.feed.new.self s.link s.inlet c.used.new.self n
    ready some (c.in-Ok.ensures.some ready long) c.used.ensures
    (subst (λ (b : List ℕ). ConnTakes s.conn (take n b) c.feed.new.self) c.bytes.ensures.bytes (c.in-Ok.ensures.taken ready))
    c.standing.ensures)
