use Rattle.std.proofs.Common.{◌≡◌}
use Rattle.shared_proxy.specs.Shares.{SameClients}
use Rattle.shared_proxy.proofs.sharing.Sharing.wake.Given as goal

abbrev pub invariant-loop-waiting : goal.invariant-loop-waiting
invariant-loop-waiting l =
    record { core : l.self.core ≡ l.fn.self.core; servers : l.self.servers ≡ l.fn.self.servers; same : SameClients l.fn.self l.self }
