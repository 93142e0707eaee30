use Rattle.wire_model.proofs.ServersCome.{grown}
use Rattle.wire_model.proofs.pair_laws.servers_may_come.Goals as goal

pub returns : goal.returns
returns g c = λ limit first made turns new run. grown _ g.H.Handler.does g.H.Handler.stops limit made first turns new run
