use Rattle.wire_share.proofs.Routing.{goes_there, routed}
use Rattle.wire_share.proofs.core_laws.routed.Goals as goal

pub returns-clause-routed : goal.returns-clause-routed
returns-clause-routed c = λ acts now run. routed acts now run

pub returns-clause-there : goal.returns-clause-there
returns-clause-there c = goes_there
