use Rattle.wire_model.proofs.Knows.{know}
use Rattle.wire_model.proofs.PairHeadline.{short_limit}
use Rattle.wire_model.proofs.pair_laws.owners_know.Goals as goal

pub returns : goal.returns
returns g c = λ limit k first made deeds ends servers is good runs served arrive. know _ g.H.Handler.does g.H.Handler.stops limit (short_limit limit is) first made good k deeds ends servers runs served arrive
