use Rattle.std.proofs.Common.{arith, drop}
use Rattle.proxy.specs.Holding.{view_of}
use Rattle.proxy.proofs.Pulling.{pulled_flow, pulled_given}
use Rattle.proxy.proofs.held.Held.pull.Goals as goal

pub returns-then-self-clause-pulls : goal.returns-then-self-clause-pulls
returns-then-self-clause-pulls g c =
    pulled_given g.L.Link.received (view_of c.args.self.now) (view_of c.give.new.self) c.give.new.buffer (drop c.min-room.result c.args.buffer.now) c.give.result
    (omega (arith, c.give.ensures.within, c.give.auto.buffer)) c.give.ensures.gives

pub returns-in-Free-clause-pulls : goal.returns-in-Free-clause-pulls
returns-in-Free-clause-pulls g c =
    pulled_flow g.L.Link.received c.receive.result (view_of c.args.self.now) (view_of c.receive.new.self) c.receive.new.buffer (drop c.min-room.result c.args.buffer.now)
    (rw c.receive.auto.buffer c.receive.ensures.within) c.receive.ensures.flows
