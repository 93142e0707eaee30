use Rattle.shared_proxy.proofs.Closings.{closes_leaves}
use Rattle.shared_proxy.proofs.sharing.Sharing.close_caller.Goals as goal

pub returns-then-is_none-clause-leaves : goal.returns-then-is_none-clause-leaves
returns-then-is_none-clause-leaves g c = closes_leaves c.close.ensures.closed
