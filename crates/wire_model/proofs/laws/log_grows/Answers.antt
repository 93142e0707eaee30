use Rattle.wire_model.proofs.Lasting.{log_grows}
use Rattle.wire_model.proofs.laws.log_grows.Goals as goal

pub returns : goal.returns
returns g c = log_grows _ g.H.Handler.does g.H.Handler.stops
