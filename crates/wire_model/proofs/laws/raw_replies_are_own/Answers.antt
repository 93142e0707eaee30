use Rattle.wire_model.proofs.Main.{headline}
use Rattle.wire_model.proofs.laws.raw_replies_are_own.Goals as goal

pub returns : goal.returns
returns g c = headline _ g.H.Handler.does g.H.Handler.stops
