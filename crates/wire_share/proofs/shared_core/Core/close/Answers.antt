use Rattle.wire_share.specs.Cores.{ClosesDown, core_seen}
use Rattle.wire_share.proofs.Runs.{as_run, one_act, reaches_on}
use Rattle.wire_share.proofs.shared_core.Core.close.Goals as goal

pub invariant_of-self : goal.invariant_of-self
invariant_of-self c = record { reached = reaches_on (core_seen c.args.self.now.state) (core_seen c.close.new.self) c.args.self.now.reached (one_act (ClosesDown c.args.number) _ _ c.close.ensures) }

pub returns-clause-run : goal.returns-clause-run
returns-clause-run c = as_run _ _ (one_act (ClosesDown c.args.number) _ _ c.close.ensures)
