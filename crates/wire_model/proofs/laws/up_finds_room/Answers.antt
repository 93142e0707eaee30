use Rattle.wire_model.proofs.Rooms.{up_wants_none}
use Rattle.wire_model.proofs.laws.up_finds_room.Goals as goal

pub returns : goal.returns
returns g c = up_wants_none g.H.Handler.does g.H.Handler.stops
