use Rattle.wire_model.proofs.PairHeadline.{short_limit}
use Rattle.wire_model.proofs.Witness.{get_done}
use Rattle.wire_model.proofs.pair_laws.calls_get_done.Goals as goal

pub returns : goal.returns
returns c = λ limit payload is le. get_done limit (short_limit limit is) payload le
