use Rattle.shared_proxy.proofs.Closings.{closes_then}
use Rattle.shared_proxy.proofs.sharing.Sharing.close.Goals as goal

pub returns-clause-closed : goal.returns-clause-closed
returns-clause-closed g c = closes_then c.args.number c.args.self.now.core c.close.new.self _ c.close.ensures.closed c.let_go.ensures.ends
