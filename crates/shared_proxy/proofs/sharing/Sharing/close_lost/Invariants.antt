use Rattle.wire_share.specs.Running.{IsRun}
use Rattle.shared_proxy.specs.Closing.{Leaves}
use Rattle.shared_proxy.proofs.sharing.Sharing.close_lost.Given as goal

abbrev pub invariant-loop-number : goal.invariant-loop-number
invariant-loop-number g l =
    (goal.iterator-loop-number g).can_next l.number-iterator × (goal.iterator-loop-number g).is_finite l.number-iterator × IsRun l.fn.self.core l.self.core
    × Leaves l.fn.self.core l.self.core
