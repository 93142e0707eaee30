use Rattle.std.proofs.Common.{◌≡◌, None, drop}
use Rattle.replay.specs.Lanes.{least_from}
use Rattle.replay.proofs.lanes.Lanes.least_due.Given as goal

abbrev pub invariant-loop-conn : goal.invariant-loop-conn
invariant-loop-conn g l = least_from l.least (drop l.conn-index l.self.conns.items) ≡ least_from None l.self.conns.items
