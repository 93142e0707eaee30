use Rattle.sockets.specs.RelayActs.{tells}
use Rattle.sockets.proofs.RelayRuns.{SoFar}
use Rattle.sockets.proofs.relay.Relay.turn.Given as goal

-- the acts so far, and what was seen of them
abbrev pub invariant-loop-i : goal.invariant-loop-i
invariant-loop-i g l = SoFar (tells g.N.Link.received g.N.Link.sent g.N.Link.ends g.N.Link.waits g.N.Link.failures g.N.EndSending.endings) (tells g.F.Link.received g.F.Link.sent g.F.Link.ends g.F.Link.waits g.F.Link.failures g.F.EndSending.endings) l.i l.i l.i l.fn.self l.self (g.A.Tap.seen l.fn.there) (g.A.Tap.seen l.there) (g.B.Tap.seen l.fn.back) (g.B.Tap.seen l.back)
