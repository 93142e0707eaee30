use Rattle.wire_model.proofs.Lasting.{done_is_earlier}
use Rattle.wire_model.proofs.laws.done_is_earlier.Goals as goal

pub returns : goal.returns
returns g c = done_is_earlier _ g.H.Handler.does g.H.Handler.stops
