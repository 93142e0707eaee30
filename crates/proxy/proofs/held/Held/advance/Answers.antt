use Rattle.proxy.specs.Holding.{view_of}
use Rattle.proxy.proofs.Pulling.{pulled_free}
use Rattle.proxy.proofs.held.Held.advance.Goals as goal

pub returns-in-Bad-clause-pulls : goal.returns-in-Bad-clause-pulls
returns-in-Bad-clause-pulls g c = pulled_free g.L.Link.received (view_of c.args.self.now) (view_of c.free.new.self) c.free.ensures.frees
