use Rattle.wire_serve.specs.Slots.{tells}
use Rattle.wire_serve.proofs.OwnerActs.{owns}
use Rattle.wire_serve.proofs.owner_laws.connections_own_servers.Goals as goal

pub returns : goal.returns
returns g c = λ made first acts old new one_each begins run.
    let L = g.L.Link in
    owns g.H.Handler.does g.H.Handler.stops (tells L.received L.sent L.ends L.waits L.failures) made first one_each acts old new begins run
