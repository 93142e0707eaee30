use Rattle.wire_model.proofs.PairHeadline.{short_limit}
use Rattle.wire_model.proofs.Work.{falls}
use Rattle.wire_model.proofs.pair_laws.work_falls.Goals as goal

pub returns : goal.returns
returns g c = λ limit first s s' d p is trace at step work. falls _ g.H.Handler.does g.H.Handler.stops limit (short_limit limit is) first s trace s' d p at step work
