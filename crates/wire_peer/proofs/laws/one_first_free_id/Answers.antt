use Rattle.wire_peer.proofs.IdLaws.{one_first_free}
use Rattle.wire_peer.proofs.laws.one_first_free_id.Goals as goal

pub returns : goal.returns
returns c = one_first_free
