use Rattle.wire_model.proofs.OwnEntries.{own_entries}
use Rattle.wire_model.proofs.pair_laws.servers_hold_alone.Goals as goal

pub returns : goal.returns
returns g c = λ limit k conn first made deeds servers served are. own_entries _ g.H.Handler.does g.H.Handler.stops limit conn k first made deeds servers served are
