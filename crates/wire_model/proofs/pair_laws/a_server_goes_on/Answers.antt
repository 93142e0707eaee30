use Rattle.wire_model.proofs.OneServer.{sent_down_on, server_on, taken_up_on}
use Rattle.wire_model.proofs.pair_laws.a_server_goes_on.Goals as goal

pub returns : goal.returns
returns g c = λ acts more old mid new run on.
    (server_on g.H.Handler.does g.H.Handler.stops acts more old mid new run on, sent_down_on acts more, taken_up_on acts more)
