use Rattle.std.proofs.Common.{◌-◌, ap, drop, take}
use Rattle.sockets.specs.RelayActs.{tells}
use Rattle.sockets.proofs.Ways.{has_sent}
use Rattle.sockets.proofs.way.Way.send.Goals as goal

pub returns-in-Ok-Bytes : goal.returns-in-Ok-Bytes
returns-in-Ok-Bytes g c =
    rw (← c.self.view_is) (has_sent (tells g.T.Link.received g.T.Link.sent g.T.Link.ends g.T.Link.waits g.T.Link.failures g.T.EndSending.endings) c.self.inside.piece.items c.self.inside.start c.self.inside.end c.in-Ok-Bytes.n c.self.inside.stage _ _ _
    (ap (λ piece. take (c.self.inside.end - c.self.inside.start) (drop c.self.inside.start piece)) c.deref.ensures.value)
    (rw (← c.self.view_is, ← c.deref.ensures.value) at c.requires.some) (rw c.in-Ok-Bytes.field-0-is at c.in-Ok-Bytes.ensures.within) (rw c.in-Ok-Bytes.field-0-is at c.in-Ok-Bytes.ensures.some) c.send.ensures.received (rw c.in-Ok-Bytes.field-0-is at c.in-Ok-Bytes.ensures.sent) c.send.ensures.end (rw c.in-Ok-Bytes.field-0-is at c.in-Ok-Bytes.ensures.later) c.in-Ok-Bytes.ensures.works)
