use Rattle.std.proofs.Common.{◌≡◌, ◌++◌, ◌+◌, ◌-◌, List, length}
use Rattle.std.specs.Io.KnownBytes.{Keeps}
use Rattle.wire_stream.specs.{AddsTurns, Turn}
use Rattle.wire_end.specs.Turns.{AreBetween}
use Rattle.wire_end.specs.ServerEnds.{parts}
use Rattle.wire_end.proofs.Gathering.{Gathers}
use Rattle.wire_end.proofs.requesting.receive_request.Given as goal

abbrev pub invariant-loop-server : goal.invariant-loop-server
invariant-loop-server g l =
    let L = g.L.Link in
    record {
      gathers : Gathers L.sent L.received (parts l.fn.server l.fn.link l.fn.inlet) (parts l.server l.link l.inlet);
      sent : Keeps (L.sent l.fn.link) (L.sent l.link);
      turns : (ts : List Turn) × AddsTurns (L.turns l.fn.link) (L.turns l.link) ts
          × AreBetween l.fn.server.limit (L.received l.fn.link) (L.sent l.fn.link) (l.fn.server.held ++ l.fn.inlet) ts;
      works : L.failures l.link ≡ L.failures l.fn.link;
      told : L.ends l.link ≡ L.ends l.fn.link;
      waits : L.waits l.link ≡ L.waits l.fn.link;
    }

abbrev pub decreases-loop-server : goal.decreases-loop-server
decreases-loop-server g l = (l.fn.server.limit + 17) - length l.server.held
