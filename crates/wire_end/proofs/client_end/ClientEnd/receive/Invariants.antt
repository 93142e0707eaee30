use Rattle.std.proofs.Common.{◌≡◌, ◌++◌, List}
use Rattle.std.specs.Io.KnownBytes.{Keeps}
use Rattle.wire_peer.specs.{MayTake}
use Rattle.wire_stream.specs.{AddsTurns, Turn}
use Rattle.wire_end.specs.Steps.{Grows, Hears}
use Rattle.wire_end.specs.Turns.{AreBetween}
use Rattle.wire_end.proofs.Feeding.{left}
use Rattle.wire_end.proofs.client_end.ClientEnd.receive.Given as goal

abbrev pub invariant-loop-self : goal.invariant-loop-self
invariant-loop-self g l =
    let L = g.L.Link in
    record {
      heard : Hears L.sent L.received l.initial.self l.self;
      grows : MayTake l.self.own.client → Grows L.received l.initial.self l.self;
      sent : Keeps (L.sent l.initial.self.link) (L.sent l.self.link);
      turns : (ts : List Turn) × AddsTurns (L.turns l.initial.self.link) (L.turns l.self.link) ts
          × AreBetween l.initial.self.own.client.requests.limit (L.received l.initial.self.link) (L.sent l.initial.self.link)
          (l.initial.self.own.client.held ++ l.initial.self.inlet) ts;
      ends : L.ends l.self.link ≡ L.ends l.initial.self.link;
      later : L.waits l.self.link ≡ L.waits l.initial.self.link;
      fails : L.failures l.self.link ≡ L.failures l.initial.self.link;
    }

abbrev pub decreases-loop-self : goal.decreases-loop-self
decreases-loop-self g l = left l.self.own.client
