use Rattle.wire_model.proofs.Main.{own_entries}
use Rattle.wire_model.proofs.laws.raw_entries_are_own.Goals as goal

pub returns : goal.returns
returns g c = own_entries _ g.H.Handler.does g.H.Handler.stops
