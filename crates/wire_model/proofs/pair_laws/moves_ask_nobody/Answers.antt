use Rattle.wire_model.proofs.OneServer.{moves_run}
use Rattle.wire_model.proofs.pair_laws.moves_ask_nobody.Goals as goal

pub returns : goal.returns
returns g c = λ acts old new log handler moves. moves_run g.H.Handler.does g.H.Handler.stops acts old new log handler moves
