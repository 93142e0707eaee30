use Rattle.wire_peer.proofs.servers.Server.state.Goals as goal

pub returns-clause-between : goal.returns-clause-between
returns-clause-between c = λ is. rw (← c.self.view_is) (c.self.invariant.between is)
