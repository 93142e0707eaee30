use Rattle.wire_model.proofs.Main.{headline_alone}
use Rattle.wire_model.proofs.laws.headline_holds.Goals as goal

pub returns : goal.returns
returns g c = headline_alone _ g.H.Handler.does g.H.Handler.stops
