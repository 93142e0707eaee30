use Rattle.wire_share.specs.Running.{IsRun}
use Rattle.shared_proxy.specs.Closing.{Ends}
use Rattle.shared_proxy.specs.Shares.{SameClients}
use Rattle.shared_proxy.proofs.sharing.Sharing.leave_servers.Given as goal

abbrev pub invariant-loop : goal.invariant-loop
invariant-loop l = record { run : IsRun l.fn.self.core l.self.core; ends : Ends l.fn.self.core l.self.core; same : SameClients l.fn.self l.self }
