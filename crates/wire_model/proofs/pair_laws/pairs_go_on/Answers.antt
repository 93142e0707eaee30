use Rattle.wire_model.proofs.PairHeadline.{short_limit}
use Rattle.wire_model.proofs.Work.{goes_on}
use Rattle.wire_model.proofs.pair_laws.pairs_go_on.Goals as goal

pub returns : goal.returns
returns g c = λ limit first s d p is trace at live busy. goes_on _ g.H.Handler.does g.H.Handler.stops limit (short_limit limit is) first s trace d p at live busy
