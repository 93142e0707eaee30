use Rattle.server_core.proofs.Lemmas.{on_any}
use Rattle.bsonserver.proofs.connections.take_whole.Goals as goal

pub returns : goal.returns
returns g c = on_any c.after_turn.result c.in_ok-turned.ensures.served
