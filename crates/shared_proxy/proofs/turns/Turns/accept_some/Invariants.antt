use Rattle.wire_share.specs.Running.{IsRun}
use Rattle.shared_proxy.proofs.turns.Turns.accept_some.Given as goal

abbrev pub invariant-loop : goal.invariant-loop
invariant-loop g l = IsRun l.fn.self.sharing.core l.self.sharing.core
