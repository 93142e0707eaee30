use Rattle.wire_model.proofs.OneServer.{one_more}
use Rattle.wire_model.proofs.pair_laws.one_more_is_served.Goals as goal

pub returns : goal.returns
returns g c = λ limit made turns acts old mid new grown run. one_more g.H.Handler.does g.H.Handler.stops limit made turns acts old mid new grown run
