use Rattle.wire_end.proofs.ServerRuns.{moves_runs}
use Rattle.wire_end.proofs.laws.moves_are_runs.Goals as goal

pub returns : goal.returns
returns g c = λ old new acts logged moves.
    moves_runs g.L.Link.sent g.L.Link.received g.H.Handler.does g.H.Handler.stops old new acts logged moves
