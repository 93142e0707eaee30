use Rattle.wire_model.proofs.Lasting.{calls_are_kept}
use Rattle.wire_model.proofs.laws.calls_are_kept.Goals as goal

pub returns : goal.returns
returns g c = calls_are_kept _ g.H.Handler.does g.H.Handler.stops
