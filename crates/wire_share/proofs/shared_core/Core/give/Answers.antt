use Rattle.wire_share.specs.Cores.{core_seen}
use Rattle.wire_share.proofs.Runs.{as_run, reaches_on}
use Rattle.wire_share.proofs.shared_core.Core.give.Goals as goal

pub invariant_of-self : goal.invariant_of-self
invariant_of-self c = record { reached = reaches_on (core_seen c.args.self.now.state) (core_seen c.give.new.self) c.args.self.now.reached c.give.ensures.run }

pub returns-clause-run : goal.returns-clause-run
returns-clause-run c = as_run _ _ c.give.ensures.run
