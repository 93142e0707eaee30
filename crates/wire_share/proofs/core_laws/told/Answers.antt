use Rattle.wire_share.proofs.Losing.{kept_all, told}
use Rattle.wire_share.proofs.core_laws.told.Goals as goal

pub returns-clause-kept : goal.returns-clause-kept
returns-clause-kept c = λ acts now run. kept_all acts now run

pub returns-clause-told : goal.returns-clause-told
returns-clause-told c = λ acts now run. told acts now run
