use Rattle.wire_share.specs.Cores.{Finishes, core_seen}
use Rattle.wire_share.proofs.Runs.{as_run, acts_run, reaches_on}
use Rattle.wire_share.proofs.shared_core.Core.finish.Goals as goal

pub invariant_of-self : goal.invariant_of-self
invariant_of-self c = record { reached = reaches_on (core_seen c.args.self.now.state) (core_seen c.finish.new.self) c.args.self.now.reached (acts_run (Finishes c.args.upstream) ((core_seen c.args.self.now.state).ups c.args.upstream) _ _ c.finish.ensures.finished c.finish.ensures.none) }

pub returns-clause-run : goal.returns-clause-run
returns-clause-run c = as_run _ _ (acts_run (Finishes c.args.upstream) ((core_seen c.args.self.now.state).ups c.args.upstream) _ _ c.finish.ensures.finished c.finish.ensures.none)
