use Rattle.wire_model.proofs.Starts.{common}
use Rattle.wire_model.proofs.pair_laws.halves_meet.Goals as goal

pub returns : goal.returns
returns g c = λ limit k first made deeds ends servers is good runs served arrive. common _ g.H.Handler.does g.H.Handler.stops limit first made good k deeds ends servers runs served arrive
