use Rattle.std.proofs.Common.{◌≡◌, drop}
use Rattle.std.specs.List.{list_any}
use Rattle.replay.proofs.lanes.Lanes.has_more.Given as goal

abbrev pub invariant-loop-conn : goal.invariant-loop-conn
invariant-loop-conn g l = list_any (λ c. c.has_more) (drop l.conn-index l.self.conns.items) ≡ list_any (λ c. c.has_more) l.self.conns.items
