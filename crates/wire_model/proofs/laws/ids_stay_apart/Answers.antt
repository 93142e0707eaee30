use Rattle.wire_model.proofs.Ids.{ids_stay_apart}
use Rattle.wire_model.proofs.laws.ids_stay_apart.Goals as goal

pub returns : goal.returns
returns g c = ids_stay_apart g.H.Handler.does g.H.Handler.stops
