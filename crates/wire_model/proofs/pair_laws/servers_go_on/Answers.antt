use Rattle.wire_model.proofs.GoingOn.{servers_on}
use Rattle.wire_model.proofs.pair_laws.servers_go_on.Goals as goal

pub returns : goal.returns
returns g c = λ deeds more old mid new run on. servers_on g.H.Handler.does g.H.Handler.stops deeds more old mid new run on
