use Rattle.wire_peer.proofs.servers.Server.waiting.Goals as goal

pub returns-clause-each : goal.returns-clause-each
returns-clause-each c = rw (← c.self.view_is) c.self.invariant.each
