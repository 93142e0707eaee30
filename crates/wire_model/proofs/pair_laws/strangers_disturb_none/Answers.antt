use Rattle.wire_model.proofs.Beside.{beside}
use Rattle.wire_model.proofs.PairHeadline.{short_limit}
use Rattle.wire_model.proofs.pair_laws.strangers_disturb_none.Goals as goal

pub returns : goal.returns
returns g c = λ limit k first made strange deeds ends servers is good runs served arrive. beside _ g.H.Handler.does g.H.Handler.stops strange limit (short_limit limit is) first made good k deeds ends servers runs served arrive
