use Rattle.std.proofs.Common.{◌≡◌}
use Rattle.proxy.proofs.watch.Watch.show.Given as goal

-- nothing changes but the reader, and whether the rest is passed over
abbrev pub invariant-fronts : goal.invariant-fronts
invariant-fronts g l = l.self ≡ record l.fn.self { reader = l.self.reader; over = l.self.over }
