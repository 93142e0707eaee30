use Rattle.std.proofs.Common.{◌≡◌}
use Rattle.proxy.proofs.proxy.Proxy.accept_some.Given as goal

-- the server stays the same
abbrev pub invariant-accepts : goal.invariant-accepts
invariant-accepts g l = l.self.upstream ≡ l.fn.self.upstream
