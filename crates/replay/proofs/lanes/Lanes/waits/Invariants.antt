use Rattle.std.proofs.Common.{◌≡◌, drop}
use Rattle.std.specs.List.{list_any}
use Rattle.replay.specs.Lanes.{waits}
use Rattle.replay.proofs.lanes.Lanes.waits.Given as goal

abbrev pub invariant-loop-conn : goal.invariant-loop-conn
invariant-loop-conn g l = list_any waits (drop l.conn-index l.self.conns.items) ≡ list_any waits l.self.conns.items
