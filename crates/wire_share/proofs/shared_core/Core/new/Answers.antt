use Rattle.wire_share.specs.Cores.{core_seen}
use Rattle.wire_share.proofs.Runs.{begun}
use Rattle.wire_share.proofs.shared_core.Core.new.Goals as goal

pub invariant_of-result : goal.invariant_of-result
invariant_of-result c = record { reached = begun (core_seen c.new.result) c.new.ensures }
