use Rattle.wire_model.proofs.OneServer.{run_among}
use Rattle.wire_model.proofs.pair_laws.a_server_is_one_of_many.Goals as goal

pub returns : goal.returns
returns g c = λ number acts servers old new at run. run_among g.H.Handler.does g.H.Handler.stops acts number servers old new at run
