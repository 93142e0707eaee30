use Rattle.wire_end.proofs.Serves.{Rests}
use Rattle.wire_end.proofs.server_end.ServerEnd.serve.Given as goal

abbrev pub invariant-loop-i : goal.invariant-loop-i
invariant-loop-i g l =
    let L = g.L.Link in
    let H = g.H.Handler in
    Rests H.does H.stops L.received L.sent L.turns L.failures L.ends L.waits l.fn.self l.fn.logged l.self l.logged l.i
