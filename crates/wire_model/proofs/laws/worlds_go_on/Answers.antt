use Rattle.wire_model.proofs.Later.{goes_on}
use Rattle.wire_model.proofs.laws.worlds_go_on.Goals as goal

pub returns : goal.returns
returns g c = goes_on _ g.H.Handler.does g.H.Handler.stops
