use Rattle.std.proofs.Common.{◌≡◌, ◌++◌, List, ℕ}
use Rattle.std.specs.Io.KnownBytes.{Appends, Keeps}
use Rattle.replay.proofs.channel.Channel.receive.Given as goal

-- what came, and is held
abbrev pub invariant-loop : goal.invariant-loop
invariant-loop g l =
    let L = g.L.Link in
    record {
      bytes : (more : List ℕ) × Appends (L.received l.fn.self.link) (L.received l.self.link) more
          × (l.fn.self.reader.held ++ l.fn.self.inlet ++ more ≡ l.self.reader.held ++ l.self.inlet);
      sent : Keeps (L.sent l.fn.self.link) (L.sent l.self.link);
      waiting : l.self.waiting ≡ l.fn.self.waiting;
    }
