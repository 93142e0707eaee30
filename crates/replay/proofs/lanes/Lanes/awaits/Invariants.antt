use Rattle.std.proofs.Common.{◌≡◌, drop}
use Rattle.std.specs.List.{list_any}
use Rattle.replay.specs.Lanes.{awaits}
use Rattle.replay.proofs.lanes.Lanes.awaits.Given as goal

abbrev pub invariant-loop-conn : goal.invariant-loop-conn
invariant-loop-conn g l = list_any awaits (drop l.conn-index l.self.conns.items) ≡ list_any awaits l.self.conns.items
