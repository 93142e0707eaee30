use Rattle.std.proofs.Common.{◌≡◌}
use Rattle.proxy.proofs.pair.Pair.turn_watched.Given as goal

-- nothing changes but the relay and what watches it
abbrev pub invariant-steps : goal.invariant-steps
invariant-steps g l = l.self ≡ record l.fn.self { relay = l.self.relay; watches = l.self.watches }
