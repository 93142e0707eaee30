use Rattle.wire_share.specs.Running.{IsRun}
use Rattle.shared_proxy.proofs.turns.Turns.take_turns.Given as goal

abbrev pub invariant-loop-event : goal.invariant-loop-event
invariant-loop-event g l = IsRun l.fn.self.sharing.core l.self.sharing.core
