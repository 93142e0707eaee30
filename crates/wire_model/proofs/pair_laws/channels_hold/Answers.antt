use Rattle.wire_model.proofs.PairHeadline.{channelled, short_limit}
use Rattle.wire_model.proofs.pair_laws.channels_hold.Goals as goal

pub returns : goal.returns
returns g c = λ limit first s is trace. channelled _ g.H.Handler.does g.H.Handler.stops limit (short_limit limit is) first s trace
