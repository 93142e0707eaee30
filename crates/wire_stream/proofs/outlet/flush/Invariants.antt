use Rattle.std.proofs.Common.{◌≡◌, ◌++◌, length, List, [], ℕ}
use Rattle.std.specs.Io.KnownBytes.{Appends, Keeps}
use Rattle.wire_stream.specs.{AddsTurns}
use Rattle.wire_stream.proofs.outlet.flush.Given as goal

abbrev pub invariant-loop-link : goal.invariant-loop-link
invariant-loop-link g l =
    let L = g.L.Link in
    let waiting = g.O.Outlet.waiting in
    record {
      sent : (gone : List ℕ) × Appends (L.sent l.fn.link) (L.sent l.link) gone × (waiting l.fn.outlet ≡ gone ++ waiting l.outlet);
      others : l.outlet ≡ g.O.Outlet.with_waiting l.fn.outlet (waiting l.outlet);
      received : Keeps (L.received l.fn.link) (L.received l.link);
      turns : AddsTurns (L.turns l.fn.link) (L.turns l.link) [];
      end : L.ends l.link ≡ L.ends l.fn.link;
      waits : L.waits l.link ≡ L.waits l.fn.link;
      works : L.failures l.link ≡ L.failures l.fn.link;
    }

abbrev pub decreases-loop-link : goal.decreases-loop-link
decreases-loop-link g l = length (g.O.Outlet.waiting l.outlet)
