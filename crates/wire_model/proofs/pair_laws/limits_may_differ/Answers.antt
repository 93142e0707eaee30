use Rattle.wire_model.proofs.LimitsKnow.{differ}
use Rattle.wire_model.proofs.pair_laws.limits_may_differ.Goals as goal

pub returns : goal.returns
returns g c = λ client_limit server_limit k first made deeds ends servers up down good runs served arrive. differ _ g.H.Handler.does g.H.Handler.stops first made good client_limit server_limit up down k deeds ends servers runs served arrive
