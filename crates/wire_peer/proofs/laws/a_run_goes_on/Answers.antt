use Rattle.wire_peer.proofs.LogLaws.{run_goes_on}
use Rattle.wire_peer.proofs.laws.a_run_goes_on.Goals as goal

pub returns : goal.returns
returns g c = run_goes_on g.H.Handler.does g.H.Handler.stops
