use Rattle.wire_share.proofs.Alone.{alone}
use Rattle.wire_share.proofs.core_laws.authenticated_alone.Goals as goal

pub returns : goal.returns
returns c = λ acts now run. alone acts now run
