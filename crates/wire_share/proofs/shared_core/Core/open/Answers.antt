use Rattle.wire_share.specs.Cores.{OpensUp, core_seen}
use Rattle.wire_share.proofs.Runs.{as_run, opens_run, reaches_on}
use Rattle.wire_share.proofs.shared_core.Core.open.Goals as goal

pub invariant_of-self : goal.invariant_of-self
invariant_of-self c = record { reached = reaches_on (core_seen c.args.self.now.state) (core_seen c.open_up.new.self) c.args.self.now.reached (opens_run (λ u. OpensUp u c.args.used) c.open_up.result _ _ c.open_up.ensures.opened c.open_up.ensures.unchanged) }

pub returns-clause-run : goal.returns-clause-run
returns-clause-run c = as_run _ _ (opens_run (λ u. OpensUp u c.args.used) c.open_up.result _ _ c.open_up.ensures.opened c.open_up.ensures.unchanged)
