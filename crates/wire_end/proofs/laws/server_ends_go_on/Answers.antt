use Rattle.wire_end.proofs.ServerRuns.{end_runs_on}
use Rattle.wire_end.proofs.laws.server_ends_go_on.Goals as goal

pub returns : goal.returns
returns g t = λ old mid new a b c acts more r s.
    end_runs_on g.L.Link.sent g.L.Link.received g.H.Handler.does g.H.Handler.stops old mid new a b c acts more r s
