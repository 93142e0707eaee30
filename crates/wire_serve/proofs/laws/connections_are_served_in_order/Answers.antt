use Rattle.std.proofs.Common.{[]}
use Rattle.wire_serve.specs.Slots.{new_slot, tells}
use Rattle.wire_serve.proofs.Served.{none_served, turns_serve}
use Rattle.wire_serve.proofs.laws.connections_are_served_in_order.Goals as goal

pub returns : goal.returns
returns g c = λ connection link turns now ran.
    let L = g.L.Link in
    let H = g.H.Handler in
    let t = tells L.received L.sent L.ends L.waits L.failures in
    turns_serve t H.does H.stops turns connection link [] [] [] (new_slot connection link) now ran (none_served t connection link)
