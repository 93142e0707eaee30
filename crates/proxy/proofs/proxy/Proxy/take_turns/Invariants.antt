use Rattle.std.proofs.Common.{◌≡◌}
use Rattle.proxy.proofs.proxy.Proxy.take_turns.Given as goal

-- no pair is opened, and the server stays the same
abbrev pub invariant-events : goal.invariant-events
invariant-events g l = (l.self.pairs.opened ≡ l.fn.self.pairs.opened) × (l.self.upstream ≡ l.fn.self.upstream)
